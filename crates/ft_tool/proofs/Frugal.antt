-- The takes of a loop: all but the last return at least one byte each.
use Rattle.std.proofs.Common.{◌≡◌, ℕ, ◌+◌, ◌-◌, ◌<◌, ◌≤◌, List, [], ◌∷◌, ◌++◌, length, take, sum, All, Option, Some}
use Rattle.std.proofs.Common.{None, refl, ap, sym, subst, ◌∙◌, arith, length-append}
use Rattle.std.proofs.Math.Seq.{take-append_seam}
use Rattle.std.proofs.KnownBytes.{Consumes-trans}
use Rattle.std.proofs.lemmas.List.Elements.{All-push}
use Rattle.std.proofs.lemmas.List.Sums.{sum_by-append}
use Rattle.std.specs.Io.KnownBytes.{Consumes, Keeps}
use Rattle.ft_edge.specs.Streams.{IsFrugal, TakesAtMost}
use Rattle.ft_edge.specs.Logs.{SourceLog}
use Rattle.ft_edge.specs.Told.{append_told}
use Rattle.ft_edge.proofs.Appended.{told_more}

-- appending an element and then dropping the last one gives the list back
but_last : (sizes : List ℕ) (n : ℕ) → take (length (sizes ++ n ∷ []) - 1) (sizes ++ n ∷ []) ≡ sizes
but_last sizes n =
    let e : length (sizes ++ n ∷ []) - 1 ≡ length sizes = omega (arith, length-append sizes (n ∷ [])) in
    ap (λ k. take k (sizes ++ n ∷ [])) e ∙ take-append_seam sizes (n ∷ [])

-- if each take returned at least one byte, then after one more take all but the last did
frugal_more : (sizes : List ℕ) (n : ℕ) → All (λ count. 0 < count) sizes → IsFrugal (sizes ++ n ∷ [])
frugal_more sizes n some = subst (All (λ count. 0 < count)) (sym (but_last sizes n)) some

-- appending a number to a list adds it to the sum
sum_more : (sizes : List ℕ) (n : ℕ) → sum (sizes ++ n ∷ []) ≡ sum sizes + n
sum_more sizes n = omega (arith, sum_by-append (λ count. count) sizes (n ∷ []))

-- takes were made that returned `total` bytes in all, and each returned at least one
pub record GaveSome (takes takes' : Option (List ℕ)) (total : ℕ) : Type 0 where
  pub sizes : List ℕ
  pub made : takes' ≡ append_told takes sizes
  pub together : sum sizes ≡ total
  pub some : All (λ count. 0 < count) sizes

-- after one more take that returned bytes, `GaveSome` holds for the new total
pub gave_more : (takes takes' takes'' : Option (List ℕ)) (total total' n : ℕ) → GaveSome takes takes' total → takes''
    ≡ append_told takes' (n ∷ []) → 0 < n → total' ≡ total + n → GaveSome takes takes'' total'
gave_more takes takes' takes'' total total' n h is some more = record {
  sizes = h.sizes ++ n ∷ [];
  made = is ∙ ap (λ told. append_told told (n ∷ [])) h.made ∙ told_more takes h.sizes (n ∷ []);
  together = let e = sum_more h.sizes n in omega (arith, e, h.together, more);
  some = All-push (λ count. 0 < count) h.sizes n h.some some;
}

-- after one more take, with or without bytes, at most `most` bytes were read and all takes but the last returned some
pub takes_last : (most : ℕ) (old mid new : SourceLog) (bytes more : List ℕ) (n : ℕ) →
    GaveSome old.takes mid.takes (length bytes) → Consumes old.left mid.left bytes
    → new.takes ≡ append_told mid.takes (n ∷ []) → Consumes mid.left new.left more → length more ≡ n →
    length bytes + n ≤ most → TakesAtMost most old new
takes_last most old mid new bytes more n h taken is gave same few = record {
  bytes = bytes ++ more;
  sizes = h.sizes ++ n ∷ [];
  taken = Consumes-trans old.left mid.left new.left bytes more taken gave;
  few = omega (arith, length-append bytes more, same, few);
  made = is ∙ ap (λ told. append_told told (n ∷ [])) h.made ∙ told_more old.takes h.sizes (n ∷ []);
  together = let e = sum_more h.sizes n in omega (arith, e, h.together, length-append bytes more, same);
  frugal = frugal_more h.sizes n h.some;
}

-- if the remaining bytes are unchanged, none were consumed
kept_none : (a b : Option (List ℕ)) → Keeps a b → Consumes a b []
kept_none None b h = tt
kept_none (Some xs) None h = absurd h
kept_none (Some xs) (Some ys) h = sym h

-- if the last take failed, at most `most` bytes were read and all takes but the last returned some
pub takes_failed : (most : ℕ) (old mid new : SourceLog) (bytes : List ℕ) → GaveSome old.takes mid.takes (length bytes) →
    Consumes old.left mid.left bytes
    → new.takes ≡ append_told mid.takes (0 ∷ []) → Keeps mid.left new.left → length bytes ≤ most →
    TakesAtMost most old new
takes_failed most old mid new bytes h taken is kept few =
    takes_last most old mid new bytes [] 0 h taken is (kept_none mid.left new.left kept) refl (omega (arith, few))
