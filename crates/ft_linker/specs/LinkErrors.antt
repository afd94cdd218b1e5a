-- Which refusal each error of the linker means.
use Rattle.std.specs.Prelude.{◌≡◌, Option, Some}
use Rattle.ft_modules.specs.LinkRefusals.{LinkRefusal, Cells, Rows, CodeOf, TooBig, NoBlock, Stub, Missing, Types}
use Rattle.ft_linker.specs.declared.link_error.LinkError.{LinkError}
use Rattle.ft_linker.specs.declared.link_error.LinkError.TheVariants as errors

-- the error means this refusal; if memory ran out, nothing is claimed
abbrev pub IsRefusalOf : Option LinkRefusal → LinkError → Type 0
IsRefusalOf x (errors.Cells m) = x ≡ Some (Cells m)
IsRefusalOf x (errors.Rows m) = x ≡ Some (Rows m)
IsRefusalOf x (errors.Code m b i) = x ≡ Some (CodeOf m b i)
IsRefusalOf x (errors.TooBig m) = x ≡ Some (TooBig m)
IsRefusalOf x (errors.Block line) = x ≡ Some (NoBlock line)
IsRefusalOf x (errors.Stub line) = x ≡ Some (Stub line)
IsRefusalOf x (errors.Missing line) = x ≡ Some (Missing line)
IsRefusalOf x (errors.Types line) = x ≡ Some (Types line)
IsRefusalOf x errors.NoMemory = Unit {0}
