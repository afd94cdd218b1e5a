-- There are files and scripts with the contents that were loaded and read.
use Rattle.std.proofs.Common.{◌≡◌, ℕ, zero, suc, ◌<◌, Bool, true, false, cond, List, [], ◌∷◌, length, get_or, Option}
use Rattle.std.proofs.Common.{Some, None, Result, Ok, Err, refl, sym, ap, ◌∙◌, subst, arith}
use Rattle.std.specs.Prelude.{IfSome}
use Rattle.std.specs.Option.{unwrap_or}
use Rattle.std.proofs.Common.{Ordering, Less, Equal, Greater}
use Rattle.std.specs.Ordering.{nat_cmp, is_eq, eq_by_cmp}
use Rattle.std.specs.Cmp.Lexicographic.{slice_cmp}
use Rattle.std.specs.FinMap.{empty, get, insert, get-empty, get-insert, nat_cmp-IsAntisymmetric}
use Rattle.std.specs.FinMap.{slice_cmp-IsAntisymmetric}
use Rattle.std.proofs.lemmas.Cmp.{nat_list_cmp_total, tied_itself}
use Rattle.std.proofs.lemmas.Option.{none-some}
use Rattle.ft_edge.specs.declared.shelf.Load.{Load}
use Rattle.ft_edge.specs.declared.shelf.Load.TheVariants.{Whole, TooLong}
use Rattle.ft_edge.specs.declared.shelf.LoadFault.{LoadFault}
use Rattle.ft_edge.specs.Loads.{Files, Loads, IsLonger}
use Rattle.ft_format.specs.Format.{AreBytes}
use Rattle.ft_tool.specs.Replies.{IsFile, IsToldFile}
use Rattle.ft_tool.specs.Told.{OfFiles, OfScript}
use Rattle.ft_tool.specs.Files.{Gives}

-- an empty list consists of bytes, and so does a list of bytes with a zero in front
pub no_bytes : AreBytes []
no_bytes i = omega arith

zero_first : (bytes : List ℕ) → AreBytes bytes → AreBytes (0 ∷ bytes)
zero_first bytes h zero = omega arith
zero_first bytes h (suc i) = h i

-- a list consists of bytes if each of its numbers is below 256
pub within_bytes : (bytes : List ℕ) → ((i : ℕ) → i < length bytes → get_or bytes i 0 < 256) → AreBytes bytes
within_bytes [] h i = omega arith
within_bytes (x ∷ xs) h zero = h 0 (omega arith)
within_bytes (x ∷ xs) h (suc i) = within_bytes xs (λ j below. h (suc j) (omega (arith, below))) i

-- for each number there is a list of more bytes than that
pub longer_bytes : (n : ℕ) → (bytes : List ℕ) × (AreBytes bytes × (n < length bytes))
longer_bytes zero = (0 ∷ [], (zero_first [] no_bytes, omega arith))
longer_bytes (suc n) = let h = longer_bytes n in (0 ∷ h.0, (zero_first h.0 h.1.0, omega (arith, h.1.1)))

-- the content of each file consists of bytes
abbrev HasBytes : Files → Type 0
HasBytes files = (name bytes : List ℕ) → get files name ≡ Some bytes → AreBytes bytes

none_bytes : HasBytes empty
none_bytes name bytes e = absurd (none-some bytes (sym (get-empty (slice_cmp nat_cmp) name) ∙ e))

-- this stays true when a file whose content consists of bytes is inserted
chosen : (t : Bool) (old : Option (List ℕ)) (more bytes : List ℕ) → AreBytes more →
    (old ≡ Some bytes → AreBytes bytes) → cond t (Some more) old ≡ Some bytes → AreBytes bytes
chosen true old more bytes is rest e = subst AreBytes (ap (λ o. unwrap_or o []) e) is
chosen false old more bytes is rest e = rest e

more_bytes : (files : Files) (name more : List ℕ) → HasBytes files → AreBytes more → HasBytes (insert files name more)
more_bytes files name more all is q bytes e =
    chosen (eq_by_cmp (slice_cmp nat_cmp) q name) (get files q) more bytes is (all q bytes)
    (sym (get-insert nat_list_cmp_total files name more q) ∙ e)

-- an inserted file is found, and so is an earlier one with another name or the same content
put_there : (files : Files) (name bytes : List ℕ) → get (insert files name bytes) name ≡ Some bytes
put_there files name bytes =
    get-insert nat_list_cmp_total files name bytes name
    ∙ ap (λ r. cond (is_eq r) (Some bytes) (get files name)) (tied_itself nat_list_cmp_total name)

kept_by : (r : Ordering) (name other bytes more : List ℕ) (old : Option (List ℕ)) → slice_cmp nat_cmp name other ≡ r →
    (other ≡ name → more ≡ bytes) → old ≡ Some bytes → cond (is_eq r) (Some more) old ≡ Some bytes
kept_by Less name other bytes more old e same is = is
kept_by Equal name other bytes more old e same is =
    ap Some (same (sym (slice_cmp-IsAntisymmetric nat_cmp-IsAntisymmetric name other e)))
kept_by Greater name other bytes more old e same is = is

put_kept : (files : Files) (name other bytes more : List ℕ) → (other ≡ name → more ≡ bytes) → get files name
    ≡ Some bytes → get (insert files other more) name ≡ Some bytes
put_kept files name other bytes more same is =
    get-insert nat_list_cmp_total files other more name
    ∙ kept_by (slice_cmp nat_cmp name other) name other bytes more (get files name) refl same is

-- there are files that agree with the revealed ones
pub some_files : (told : Option Files) → OfFiles told (λ files. Unit {0})
some_files (Some told) = (told, (refl, tt))
some_files None = (empty, (none_bytes, tt))

-- there are such files, and the one with this name has this content
pub files_with : (told : Option Files) (name bytes : List ℕ) → IsToldFile told name bytes →
    OfFiles told (λ files. IsFile files name bytes)
files_with (Some told) name bytes h = (told, (refl, h))
files_with None name bytes h = (
  insert empty name bytes,
  (more_bytes empty name bytes none_bytes h, put_there empty name bytes),
)

-- there are such files, and the two with these names have these contents, if equal names have equal contents
pub files_with_both : (told : Option Files) (name bytes other more : List ℕ) → IsToldFile told name bytes →
    IsToldFile told other more → (other ≡ name → more ≡ bytes)
    → OfFiles told (λ files. IsFile files name bytes × IsFile files other more)
files_with_both (Some told) name bytes other more h g same = (told, (refl, (h, g)))
files_with_both None name bytes other more h g same =
    let first = insert empty name bytes in (
      insert first other more,
      (
        more_bytes first other more (more_bytes empty name bytes none_bytes h) g,
        (put_kept first name other bytes more same (put_there empty name bytes), put_there first other more),
      ),
    )

-- there is a script that agrees with the revealed one
pub some_script : (left : Option (List ℕ)) → OfScript left (λ script. Unit {0})
some_script (Some told) = (told, (refl, tt))
some_script None = ([], (no_bytes, tt))

-- bytes that were loaded under a name are the content of the file with that name
told_file : (told : Option Files) (name bytes : List ℕ) → IfSome told (λ fs. get fs name ≡ Some bytes) →
    AreBytes bytes → IsToldFile told name bytes
told_file (Some told) name bytes h is = h
told_file None name bytes h is = is

longer_file : (told : Option Files) (name : List ℕ) (limit : ℕ) → IfSome told (λ fs. IsLonger fs name limit) →
    (bytes : List ℕ) × (IsToldFile told name bytes × (limit < length bytes))
longer_file (Some told) name limit h = (h.bytes, (h.found, h.longer))
longer_file None name limit h = longer_bytes limit

pub gives : (told : Option Files) (name : List ℕ) (limit : ℕ) (into : List ℕ) (r : Result Load LoadFault) →
    AreBytes into → Loads told name limit into r → Gives told name limit into r
gives told name limit into (Ok Whole) is h = (h.0, told_file told name into h.1 is)
gives told name limit into (Ok TooLong) is h = longer_file told name limit h.1
gives told name limit into (Err e) is h = tt
