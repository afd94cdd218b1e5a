use Rattle.std.proofs.Common.{◌∙◌, ap, sym}
use Rattle.ft_compile.specs.Noted.{step_noted}
use Rattle.ft_compile.specs.Viewed.{noted_of}
use Rattle.ft_compile.proofs.walking.note_step.Goals as goal

pub returns-in_ok-note_copy-in-Copy : goal.returns-in_ok-note_copy-in-Copy
returns-in_ok-note_copy-in-Copy c = c.in_ok-note_copy-in-Copy.ensures c.args.vars
    ∙ ap (step_noted c.args.vars c.args.scope (noted_of c.args.notes.now)) (sym c.in-Copy.is)

pub returns-in_ok-note_operation-in-Op : goal.returns-in_ok-note_operation-in-Op
returns-in_ok-note_operation-in-Op c = c.in_ok-note_operation-in-Op.ensures c.args.vars
    ∙ ap (step_noted c.args.vars c.args.scope (noted_of c.args.notes.now)) (sym c.in-Op.is)

pub returns-in_ok-note_load-in-Load : goal.returns-in_ok-note_load-in-Load
returns-in_ok-note_load-in-Load c = c.in_ok-note_load-in-Load.ensures c.args.vars
    ∙ ap (step_noted c.args.vars c.args.scope (noted_of c.args.notes.now)) (sym c.in-Load.is)

pub returns-in_ok-note_store-in-Store : goal.returns-in_ok-note_store-in-Store
returns-in_ok-note_store-in-Store c = c.in_ok-note_store-in-Store.ensures c.args.vars c.in-Store.spare
    ∙ ap (step_noted c.args.vars c.args.scope (noted_of c.args.notes.now)) (sym c.in-Store.is)

pub returns-in_ok-note_load_at-in-LoadAt : goal.returns-in_ok-note_load_at-in-LoadAt
returns-in_ok-note_load_at-in-LoadAt c = c.in_ok-note_load_at-in-LoadAt.ensures c.args.vars
    ∙ ap (step_noted c.args.vars c.args.scope (noted_of c.args.notes.now)) (sym c.in-LoadAt.is)

pub returns-in_ok-note_store_at-in-StoreAt : goal.returns-in_ok-note_store_at-in-StoreAt
returns-in_ok-note_store_at-in-StoreAt c = c.in_ok-note_store_at-in-StoreAt.ensures c.args.vars c.in-StoreAt.spare
    ∙ ap (step_noted c.args.vars c.args.scope (noted_of c.args.notes.now)) (sym c.in-StoreAt.is)
