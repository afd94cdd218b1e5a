use Rattle.std.proofs.Common.{◌≡◌, inl}
use Rattle.ft_format.specs.Broken.{version_at}
use Rattle.ft_tool.specs.declared.load.ObjectFault.TheVariants.{Failed}
use Rattle.ft_tool.specs.Objects.{UpgradesObject, OverBytes}
use Rattle.ft_tool.specs.Files.{IsRefusedBy}
use Rattle.ft_tool.proofs.Answered.{Ends-map}
use Rattle.ft_tool.proofs.Upgraded.{decode_refused, decode_has_loaded}
use Rattle.ft_tool.proofs.upgrade.upgrade_bytes.Goals as goal

pub returns-in-Ok : goal.returns-in-Ok
returns-in-Ok g c =
    Ends-map c.put_object.result (UpgradesObject c.in-Ok.object) (OverBytes UpgradesObject c.args.bytes.now) _ _ ⊥ ⊥
    (λ a is. inl (c.in-Ok.object, ((version_at c.args.bytes.now, c.in-Ok.ensures.spelled), is))) (λ x. x)
    c.put_object.ensures

pub returns-in-Err : goal.returns-in-Err
returns-in-Err g c =
    Ends-map c.refuse_object.result (IsRefusedBy c.fault_of.result) (OverBytes UpgradesObject c.args.bytes.now) _ _
    (c.fault_of.result ≡ Failed) ⊥
    (decode_refused c.in-Err.error c.fault_of.result c.args.bytes.now c.fault_of.ensures c.in-Err.ensures.judged)
    (decode_has_loaded c.in-Err.error c.fault_of.result c.fault_of.ensures) c.refuse_object.ensures.ends
