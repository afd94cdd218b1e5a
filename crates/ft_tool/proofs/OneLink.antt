-- Two links of the same map and modules have equal answers.
use Rattle.std.proofs.Common.{◌≡◌, ℕ, List, [], ◌∷◌, ◌++◌, Option, Some, None, inl, inr, sym, ap, ◌∙◌, subst}
use Rattle.std.specs.Prelude.{◌⊎◌}
use Rattle.std.proofs.lemmas.Option.{same_Some, none-some}
use Rattle.ft_edge.specs.Loads.{Files}
use Rattle.ft_types.specs.declared.object.Object.{Object}
use Rattle.ft_typing.specs.Accepted.{refusal}
use Rattle.ft_format.specs.Broken.{broken, object_of}
use Rattle.ft_command.specs.Options.{Word}
use Rattle.ft_link_map.specs.declared.link_map.LinkMap.{LinkMap}
use Rattle.ft_link_map.specs.MapLines.{MapLine, AreSaid}
use Rattle.ft_link_map.specs.MapAnswers.{Answer as MapSaid, answer_of}
use Rattle.ft_link_map.specs.MapAnswers as maps
use Rattle.ft_modules.specs.Linked.{linked}
use Rattle.ft_modules.specs.LinkRefusals.{LinkRefusal, link_refusal}
use Rattle.ft_linker.specs.Linking.{added_refusal}
use Rattle.ft_tool.specs.Links.{SaysOf, IsMap, EndsAtMap, long_map, bad_line, line_twice, unlinked, EndsAtObject}
use Rattle.ft_tool.specs.Links.{not_accepted, not_added, EndsAtBytes, no_object, no_module, IsAdded, LinksUnless}
use Rattle.ft_tool.specs.Links.{LinksAdded, LinksFiles, LinksText, LinksFile}
use Rattle.ft_tool.specs.Texts.{link_line}
use Rattle.ft_tool.specs.Replies.{Answer, one_piece, IsSpelling}
use Rattle.ft_tool.specs.Objects.{refused as object_refused, judged}
use Rattle.ft_tool.proofs.OneObject.{not_both, upgraded_same}

-- a text is read as a map in only one way
pub says_same : ((text : List ℕ) (said others : List MapLine) → AreSaid text said → AreSaid text others → said
    ≡ others) →
    (text : List ℕ) (x y : MapSaid) → SaysOf text x → SaysOf text y → x ≡ y
says_same one text x y h g = sym h.is ∙ ap answer_of (one text h.lines g.lines h.are_said g.are_said) ∙ g.is

line_same : (n m : ℕ) → maps.Line n ≡ maps.Line m → n ≡ m
line_same n m e = cc

twice_same : (n m : ℕ) → maps.Twice n ≡ maps.Twice m → n ≡ m
twice_same n m e = cc

map_same : (x y : LinkMap) → maps.Is x ≡ maps.Is y → x ≡ y
map_same x y e = cc

line_twice_differ : (n m : ℕ) → maps.Line n ≡ maps.Twice m → ⊥
line_twice_differ n m e = cc

line_map_differ : (n : ℕ) (x : LinkMap) → maps.Line n ≡ maps.Is x → ⊥
line_map_differ n x e = cc

twice_map_differ : (n : ℕ) (x : LinkMap) → maps.Twice n ≡ maps.Is x → ⊥
twice_map_differ n x e = cc

-- a text ends the link with only one answer
map_ends : ((text : List ℕ) (x y : MapSaid) → SaysOf text x → SaysOf text y → x ≡ y) → (text : List ℕ) (a b : Answer) →
    EndsAtMap text a → EndsAtMap text b → a ≡ b
map_ends one text a b (long_map l e) (long_map k f) = e ∙ sym f
map_ends one text a b (long_map l e) (bad_line n h f) = absurd (not_both _ _ l h.short)
map_ends one text a b (long_map l e) (line_twice n h f) = absurd (not_both _ _ l h.short)
map_ends one text a b (bad_line n h f) (long_map l e) = absurd (not_both _ _ l h.short)
map_ends one text a b (bad_line n h e) (bad_line m g f) = e
    ∙ ap (λ k. one_piece (link_line 1 k) 13) (line_same n m (one text (maps.Line n) (maps.Line m) h g)) ∙ sym f
map_ends one text a b (bad_line n h e) (line_twice m g f) =
    absurd (line_twice_differ n m (one text (maps.Line n) (maps.Twice m) h g))
map_ends one text a b (line_twice n h f) (long_map l e) = absurd (not_both _ _ l h.short)
map_ends one text a b (line_twice n h e) (bad_line m g f) =
    absurd (line_twice_differ m n (one text (maps.Line m) (maps.Twice n) g h))
map_ends one text a b (line_twice n h e) (line_twice m g f) = e
    ∙ ap (λ k. one_piece (link_line 2 k) 13) (twice_same n m (one text (maps.Twice n) (maps.Twice m) h g)) ∙ sym f

-- a text that is a map does not end the link
map_goes_on : ((text : List ℕ) (x y : MapSaid) → SaysOf text x → SaysOf text y → x ≡ y) →
    (text : List ℕ) (linkage : LinkMap) (a : Answer) → IsMap text linkage → EndsAtMap text a → ⊥
map_goes_on one text linkage a h (long_map l e) = not_both _ _ l h.short
map_goes_on one text linkage a h (bad_line n g e) =
    line_map_differ n linkage (one text (maps.Line n) (maps.Is linkage) g h)
map_goes_on one text linkage a h (line_twice n g e) =
    twice_map_differ n linkage (one text (maps.Twice n) (maps.Is linkage) g h)

-- an object ends the link with only one answer
object_ends : (modules : List Object) (o : Object) (a b : Answer) → EndsAtObject modules o a →
    EndsAtObject modules o b → a ≡ b
object_ends modules o a b (not_accepted r h e) (not_accepted s g f) = e
    ∙ ap (λ x. judged (Some x)) (same_Some r s (sym h ∙ g)) ∙ sym f
object_ends modules o a b (not_accepted r h e) (not_added accepted s g f) = absurd (none-some r (sym accepted ∙ h))
object_ends modules o a b (not_added accepted s g f) (not_accepted r h e) = absurd (none-some r (sym accepted ∙ h))
object_ends modules o a b (not_added accepted r h e) (not_added accepted' s g f) = e
    ∙ ap unlinked (same_Some r s (sym h ∙ g)) ∙ sym f

-- an object that is added does not end the link
object_goes_on : (modules : List Object) (o : Object) (a : Answer) → refusal o ≡ None → added_refusal modules o ≡ None →
    EndsAtObject modules o a → ⊥
object_goes_on modules o a accepted unrefused (not_accepted r h e) = none-some r (sym accepted ∙ h)
object_goes_on modules o a accepted unrefused (not_added again r h e) = none-some r (sym unrefused ∙ h)

module _ (one_object : (bytes : List ℕ) (o : Object) → IsSpelling bytes o → object_of bytes
    ≡ o) (unbroken : (bytes : List ℕ) (o : Object) → IsSpelling bytes o → broken bytes ≡ None) where
  -- bytes spell only one object
  spelled_same : (bytes : List ℕ) (o u : Object) → IsSpelling bytes o → IsSpelling bytes u → u ≡ o
  spelled_same bytes o u h g = sym (one_object bytes u g) ∙ one_object bytes o h

  -- bytes end the link with only one answer
  bytes_end : (modules : List Object) (bytes : List ℕ) (a b : Answer) → EndsAtBytes modules bytes a →
      EndsAtBytes modules bytes b → a ≡ b
  bytes_end modules bytes a b (no_object x h e) (no_object y g f) = e ∙ ap object_refused (same_Some x y (sym h ∙ g))
      ∙ sym f
  bytes_end modules bytes a b (no_object x h e) (no_module o g f) = absurd (none-some x (sym (unbroken bytes o g) ∙ h))
  bytes_end modules bytes a b (no_module o g f) (no_object x h e) = absurd (none-some x (sym (unbroken bytes o g) ∙ h))
  bytes_end modules bytes a b (no_module o h e) (no_module u g f) =
      object_ends modules o a b e (subst (λ x. EndsAtObject modules x b) (spelled_same bytes o u h g) f)

  -- bytes of an object that is added do not end the link
  bytes_go_on : (modules : List Object) (bytes : List ℕ) (o : Object) (a : Answer) → IsAdded modules bytes o →
      EndsAtBytes modules bytes a → ⊥
  bytes_go_on modules bytes o a h (no_object x g e) = none-some x (sym (unbroken bytes o h.spelled) ∙ g)
  bytes_go_on modules bytes o a h (no_module u g e) =
      object_goes_on modules o a h.accepted h.unrefused
      (subst (λ x. EndsAtObject modules x a) (spelled_same bytes o u h.spelled g) e)

  -- two answers for modules that were all added are equal
  unless_same : (x : Option LinkRefusal) (linkage : LinkMap) (first : Object) (others : List Object) (a b : Answer) →
      LinksUnless x linkage first others a → LinksUnless x linkage first others b → a ≡ b
  unless_same None linkage first others a b h g = upgraded_same (linked linkage first others) a b h.written g.written
  unless_same (Some r) linkage first others a b h g = h ∙ sym g

  added_same : (linkage : LinkMap) (modules : List Object) (a b : Answer) → LinksAdded linkage modules a →
      LinksAdded linkage modules b → a ≡ b
  added_same linkage [] a b h g = absurd h
  added_same linkage (first ∷ others) a b h g = unless_same (link_refusal linkage first others) linkage first others a b
      h g

  -- two answers for the files of further modules are equal, by induction over the files
  next_same : (files : Files) (linkage : LinkMap) (modules : List Object) (names : List Word) (bytes : List ℕ)
      (a b : Answer)
      → ((o : Object) (x y : Answer) → LinksFiles (Some files) linkage (modules ++ o ∷ []) names x →
      LinksFiles (Some files) linkage (modules ++ o ∷ []) names y → x ≡ y)
      → EndsAtBytes modules bytes a ⊎ ((o : Object)
      × (IsAdded modules bytes o × LinksFiles (Some files) linkage (modules ++ o ∷ []) names a))
      → EndsAtBytes modules bytes b ⊎ ((o : Object)
      × (IsAdded modules bytes o × LinksFiles (Some files) linkage (modules ++ o ∷ []) names b)) → a ≡ b
  next_same files linkage modules names bytes a b on (inl x) (inl y) = bytes_end modules bytes a b x y
  next_same files linkage modules names bytes a b on (inl x) (inr y) = absurd (bytes_go_on modules bytes y.0 a y.1.0 x)
  next_same files linkage modules names bytes a b on (inr x) (inl y) = absurd (bytes_go_on modules bytes x.0 b x.1.0 y)
  next_same files linkage modules names bytes a b on (inr x) (inr y) =
      on x.0 a b x.1.1 (subst (λ o. LinksFiles (Some files) linkage (modules ++ o ∷ []) names b)
      (spelled_same bytes x.0 y.0 x.1.0.spelled y.1.0.spelled) y.1.1)

  files_same : (files : Files) (linkage : LinkMap) (modules : List Object) (names : List Word) (a b : Answer) →
      LinksFiles (Some files) linkage modules names a → LinksFiles (Some files) linkage modules names b → a ≡ b
  files_same files linkage modules [] a b h g = added_same linkage modules a b h g
  files_same files linkage modules (name ∷ names) a b h g =
      next_same files linkage modules names h.0 a b (λ o x y. files_same files linkage (modules ++ o ∷ []) names x y)
      h.1.1
      (subst (λ bytes. EndsAtBytes modules bytes b ⊎ ((o : Object)
      × (IsAdded modules bytes o × LinksFiles (Some files) linkage (modules ++ o ∷ []) names b)))
      (same_Some g.0 h.0 (sym g.1.0 ∙ h.1.0)) g.1.1)

  -- two answers for the text of a map are equal, and so are two answers for its file
  map_text_same : ((text : List ℕ) (x y : MapSaid) → SaysOf text x → SaysOf text y → x ≡ y) →
      (files : Files) (text : List ℕ) (a b : Answer) → LinksText (Some files) text a → LinksText (Some files) text b → a
      ≡ b
  map_text_same one files text a b (inl x) (inl y) = map_ends one text a b x y
  map_text_same one files text a b (inl x) (inr y) = absurd (map_goes_on one text y.0 a y.1.0 x)
  map_text_same one files text a b (inr x) (inl y) = absurd (map_goes_on one text x.0 b x.1.0 y)
  map_text_same one files text a b (inr x) (inr y) =
      files_same files x.0 [] x.0.files a b x.1.1
      (subst (λ (m : LinkMap). LinksFiles (Some files) m [] m.files b)
      (map_same y.0 x.0 (one text (maps.Is y.0) (maps.Is x.0) y.1.0 x.1.0)) y.1.1)

  pub link_same : ((text : List ℕ) (x y : MapSaid) → SaysOf text x → SaysOf text y → x ≡ y) →
      (name : Word) (files : Files) (a b : Answer) → LinksFile (Some files) name a → LinksFile (Some files) name b → a
      ≡ b
  link_same one name files a b h g = map_text_same one files h.0 a b h.1.1
      (subst (λ text. LinksText (Some files) text b) (same_Some g.0 h.0 (sym g.1.0 ∙ h.1.0)) g.1.1)
