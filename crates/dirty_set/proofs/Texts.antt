-- What references, names and descriptions say stays the same, outside what an edit marks.
use Rattle.std.proofs.Common.{◌≡◌, ℕ, List, [], ◌∷◌, ◌++◌, map, take, Bool, true, false, cond, not, ◌||◌, ◌&&◌, Option, Some, None, Contains, refl, sym, ap, subst, ◌∙◌}
use Rattle.std.specs.Prelude.{find, is_some, bytes_eq, codes, ◌==◌}
use Rattle.std.specs.List.{list_any, flat_map}
use Rattle.std.specs.Option.{option_map_or, unwrap_or}
use Rattle.std.proofs.lemmas.Cmp.{nat_list_eq_equiv}
use Rattle.std.proofs.lemmas.Bool.{false≢true, or_parts, or_left, or_right}
use Rattle.std.proofs.lemmas.List.Elements.{Contains-append_left, Contains-append_right}
use Rattle.std.proofs.lemmas.Slice.Eq.{bytes_eq-Decides}
use Rattle.ax_base.specs.declared.body.Body.{Body}
use Rattle.ax_base.specs.declared.body.Body.TheVariants.{Element, Words}
use Rattle.ax_base.specs.Attributes.{value_of}
use Rattle.ax_base.specs.Characters.{Chars, flat, cut, is_blank, first_said, tokens, joined_by_spaces}
use Rattle.ax_base.specs.Values.{text_in}
use Rattle.ax_base.specs.Document.{Document, Node, node, spot, body, has, order, children, attr, text_of, has_id, target, IsChild}
use Rattle.ax_base.specs.Said.{is_block, spaced, is_button_field, child_text}
use Rattle.ax_base.specs.Roles.{role, hides}
use Rattle.ax_base.specs.NamedRoles.{names_from_content, name_prohibited}
use Rattle.ax_base.specs.Focusable.{is_field}
use Rattle.ax_base.specs.References.{referring, referred_node, referred_text, refs, said1_from, said1}
use Rattle.ax_base.specs.AccessibleNames.{is_label_for, first_label, labelled_text, host_label, content_text, naming_texts, naming_text, name_of, describing_text, description_of}
use Rattle.ax_base.proofs.Below.{from_below_same}
use Rattle.ax_base.proofs.Membership.{map_same, Contains-head, Contains-tail}
use Rattle.ax_dom.specs.Subtrees.{subtree}
use Rattle.ax_dom.proofs.Kept.{found_passes}
use Rattle.ax_dom.proofs.Subtrees.{subtree_has, within_known, within_child}
use Rattle.ax_dom.specs.Among.{has_within}
use Rattle.dom_ids.specs.References.{listed, label_for, is_text_in, names_text, carried}
use Rattle.dirty_set.specs.Reach.{Marked, is_at_marks, is_focus, is_source, ties_to, is_tied}
use Rattle.dirty_set.proofs.Tests.{any_at, none_at, found, none, any_less}
use Rattle.dirty_set.proofs.Follows.{Follows, IsQuiet, quiet_unrooted, quiet_body, quiet_spot, quiet_children, within_below, hidden_same, said0_same, said_all_same}
use Rattle.dirty_set.proofs.Firsts.{first_in_order}

pub same_text : (x y : Chars) → bytes_eq x y ≡ true → x ≡ y
same_text x y e = (bytes_eq-Decides x y).0 e

pub itself : (x : Chars) → bytes_eq x x ≡ true
itself x = nat_list_eq_equiv.refl x

-- an `id` is carried
listed_some : {A : Type 0} (o : Option A) (x : A) → o ≡ Some x → Contains (listed o) x
listed_some None x is = cc
listed_some (Some y) x is = let same : y ≡ x = cc in subst (Contains (y ∷ [])) same (Contains-head y [])

is_some_text : (x : Chars) (o : Option Chars) → option_map_or (bytes_eq x) o false ≡ true → o ≡ Some x
is_some_text x None on = cc
is_some_text x (Some y) on = ap (λ z. Some z) (sym (same_text x y on))

pub carried_id : (x : Chars) (b : Body) → has_id x b ≡ true → Contains (carried b) x
carried_id x b on = Contains-append_left (listed (attr (codes "id") b)) (listed (label_for b)) x (listed_some (attr (codes "id") b) x (is_some_text x (attr (codes "id") b) on))

label_says : (x : Chars) (b : Body) → is_label_for x b ≡ true → label_for b ≡ Some x
label_says x (Words chars runs) on = cc
label_says x (Element tag attrs frame) on = go (bytes_eq tag (codes "label")) (value_of (codes "for") attrs) on
  where
    go : (b : Bool) (o : Option Chars) → (b && option_map_or (bytes_eq x) o false) ≡ true → cond b o None ≡ Some x
    go true o on = is_some_text x o on
    go false o on = cc

pub carried_for : (x : Chars) (b : Body) → is_label_for x b ≡ true → Contains (carried b) x
carried_for x b on = Contains-append_right (listed (attr (codes "id") b)) (listed (label_for b)) x (listed_some (label_for b) x (label_says x b on))

-- what a test finds that an empty text does not pass is in the document
pub known_by : (d : Document) (g : Body → Bool) → g (Words [] []) ≡ false → (n : ℕ) → g (body d n) ≡ true → has d n ≡ true
known_by d g fails n on = go (node d n) refl on
  where
    go : (o : Option Node) → node d n ≡ o → g (option_map_or (λ (e : Node). e.body) o (Words [] [])) ≡ true → has d n ≡ true
    go None is on = absurd (false≢true (sym fails ∙ on))
    go (Some e) is on = ap is_some is

flat_map_same : {Y : Type 0} (f g : ℕ → List Y) (cs : List ℕ) → ((c : ℕ) → Contains cs c → f c ≡ g c) → flat_map f cs ≡ flat_map g cs
flat_map_same f g [] each = refl
flat_map_same f g (c ∷ cs) each = λ i. each c (Contains-head c cs) i ++ flat_map_same f g cs (λ y inside. each y (Contains-tail c y cs inside)) i

module _ (old now : Document) (m : Marked) (s : Follows old now m) where
  -- whether no node that is marked carries the text
  abbrev pub IsFree : Chars → Type 0
  IsFree x = is_text_in m.texts x ≡ false

  pub clear_test : (x : Chars) → IsFree x → (g : Body → Bool) → ((b : Body) → g b ≡ true → Contains (carried b) x) → (b : Body) → (Contains (carried b) x → is_text_in m.texts x ≡ true) → g b ≡ false
  clear_test x free g carries b told = go (g b) refl
    where
      go : (y : Bool) → g b ≡ y → y ≡ false
      go true on = absurd (false≢true (sym free ∙ told (carries b on)))
      go false off = refl

  first_free : (x : Chars) → IsFree x → (g : Body → Bool) → ((b : Body) → g b ≡ true → Contains (carried b) x) → find (λ k. g (body old k)) (order old) ≡ find (λ k. g (body now k)) (order now)
  first_free x free g carries = first_in_order old now m s g
      (λ n near. clear_test x free g carries (body old n) (s.texts_were n x near))
      (λ n near. clear_test x free g carries (body now n) (s.texts_are n x near))

  pub target_same : (x : Chars) → IsFree x → target old x ≡ target now x
  target_same [] free = refl
  target_same (c ∷ cs) free = first_free (c ∷ cs) free (has_id (c ∷ cs)) (carried_id (c ∷ cs))

  pub label_same : (x : Chars) → IsFree x → first_label old x ≡ first_label now x
  label_same x free = first_free x free (is_label_for x) (carried_for x)

  -- nothing at or below the node is marked or tied to a marked text, and it is not below a marked root
  abbrev pub IsCalm : ℕ → Type 0
  IsCalm n = (has now n ≡ true) × (has_within now (is_tied now m) n ≡ false)

  tied_at : (q : ℕ) → is_at_marks m.nodes m.roots now q ≡ true → is_tied now m q ≡ true
  tied_at q on = or_left (is_source now m q) (list_any (ties_to (body now q)) m.texts) (or_left (is_at_marks m.nodes m.roots now q) (is_focus now q) on)

  pub calm_quiet : (n : ℕ) → IsCalm n → IsQuiet old now m s n
  calm_quiet n calm = (calm.0, any_less (is_at_marks m.nodes m.roots now) (is_tied now m) (subtree now n) (λ q inside on. tied_at q on) calm.1)

  pub calm_within : (n q : ℕ) → IsCalm n → Contains (subtree now n) q → IsCalm q
  calm_within n q calm inside = (
    within_known now s.is_tree n q calm.0 inside,
    none (is_tied now m) (subtree now q) (λ k below on. false≢true (sym (none_at (is_tied now m) (subtree now n) k calm.1 (within_below now s.is_tree n q k inside below)) ∙ on)),
  )

  pub calm_child : (n c : ℕ) → IsCalm n → IsChild now n c → IsCalm c
  calm_child n c calm child = calm_within n c calm (within_child now s.is_tree n n c (subtree_has now s.is_tree n) child)

  pub untied : (n : ℕ) → IsCalm n → list_any (ties_to (body now n)) m.texts ≡ false
  untied n calm = (or_parts (is_source now m n) (list_any (ties_to (body now n)) m.texts) (none_at (is_tied now m) (subtree now n) n calm.1 (subtree_has now s.is_tree n))).1

  -- a text that a calm node is tied to is free
  pub tie_free : (b : Body) (x : Chars) → list_any (ties_to b) m.texts ≡ false → ties_to b x ≡ true → IsFree x
  tie_free b x off tied = go (is_text_in m.texts x) refl
    where
      go : (y : Bool) → is_text_in m.texts x ≡ y → y ≡ false
      go true on =
          let r = found (bytes_eq x) m.texts on in
          absurd (false≢true (sym (none_at (ties_to b) m.texts r.0 off r.1) ∙ ap (ties_to b) (sym (same_text x r.0 r.2)) ∙ tied))
      go false off = refl

  -- what carries a free text is quiet
  pub carrier_quiet : (x : Chars) → IsFree x → (t : ℕ) → has now t ≡ true → Contains (carried (body now t)) x → IsQuiet old now m s t
  carrier_quiet x free t there carries = (there, go (has_within now (is_at_marks m.nodes m.roots now) t) refl)
    where
      go : (y : Bool) → has_within now (is_at_marks m.nodes m.roots now) t ≡ y → y ≡ false
      go true on = absurd (false≢true (sym free ∙ s.texts_are t x on carries))
      go false off = refl

  referred_quiet : (t : ℕ) → IsQuiet old now m s t → referred_node old t ≡ referred_node now t
  referred_quiet t quiet = λ i. flat (cond (hidden_same old now m s t (quiet_unrooted old now m s t quiet) i) (said_all_same old now m s t quiet i) (said0_same old now m s t quiet i))

  found_quiet : (x : Chars) → IsFree x → (g : Body → Bool) → ((b : Body) → g b ≡ true → Contains (carried b) x) → g (Words [] []) ≡ false → (t : ℕ) → find (λ k. g (body now k)) (order now) ≡ Some t → IsQuiet old now m s t
  found_quiet x free g carries fails t is =
      let on : g (body now t) ≡ true = found_passes (λ k. g (body now k)) (order now) t is in
      carrier_quiet x free t (known_by now g fails t on) (carries (body now t) on)

  target_quiet : (x : Chars) → IsFree x → (t : ℕ) → target now x ≡ Some t → IsQuiet old now m s t
  target_quiet [] free t is = cc
  target_quiet (c ∷ cs) free t is = found_quiet (c ∷ cs) free (has_id (c ∷ cs)) (carried_id (c ∷ cs)) refl t is

  said_of : (o p : Option ℕ) → o ≡ p → ((t : ℕ) → p ≡ Some t → IsQuiet old now m s t) → option_map_or (referred_node old) o [] ≡ option_map_or (referred_node now) p []
  said_of o p same quiet = ap (λ v. option_map_or (referred_node old) v []) same ∙ go p quiet
    where
      go : (v : Option ℕ) → ((t : ℕ) → v ≡ Some t → IsQuiet old now m s t) → option_map_or (referred_node old) v [] ≡ option_map_or (referred_node now) v []
      go None quiet = refl
      go (Some t) quiet = referred_quiet t (quiet t refl)

  pub referred_same : (x : Chars) → IsFree x → referred_text old x ≡ referred_text now x
  referred_same x free = said_of (target old x) (target now x) (target_same x free) (target_quiet x free)

  -- references whose tokens are free say the same
  refs_free : (name : Chars) (n : ℕ) → body old n ≡ body now n → ((x : Chars) → Contains (take 8 (tokens (text_of name (body now n)))) x → IsFree x) → refs old name (spot old n) ≡ refs now name (spot now n)
  refs_free name n same free =
      ap (λ b. joined_by_spaces (map (referred_text old) (take 8 (tokens (text_of name b))))) same
      ∙ ap joined_by_spaces (map_same (referred_text old) (referred_text now) (take 8 (tokens (text_of name (body now n)))) (λ x inside. referred_same x (free x inside)))

  is_among : (xs : List Chars) (x : Chars) → Contains xs x → is_text_in xs x ≡ true
  is_among xs x inside = any_at (bytes_eq x) xs x inside (itself x)

  names_free : (n : ℕ) (x : Chars) → IsCalm n → names_text x (body now n) ≡ true → IsFree x
  names_free n x calm on = tie_free (body now n) x (untied n calm) (or_right (has_id x (body now n)) (names_text x (body now n) || is_label_for x (body now n)) (or_left (names_text x (body now n)) (is_label_for x (body now n)) on))

  pub labelledby_same : (n : ℕ) → IsCalm n → refs old (codes "aria-labelledby") (spot old n) ≡ refs now (codes "aria-labelledby") (spot now n)
  labelledby_same n calm = refs_free (codes "aria-labelledby") n (quiet_body old now m s n (calm_quiet n calm)) (λ x inside.
      names_free n x calm (or_left (is_text_in (take 8 (tokens (text_of (codes "aria-labelledby") (body now n)))) x) (is_text_in (take 8 (tokens (text_of (codes "aria-describedby") (body now n)))) x) (is_among (take 8 (tokens (text_of (codes "aria-labelledby") (body now n)))) x inside)))

  pub describedby_same : (n : ℕ) → IsCalm n → refs old (codes "aria-describedby") (spot old n) ≡ refs now (codes "aria-describedby") (spot now n)
  describedby_same n calm = refs_free (codes "aria-describedby") n (quiet_body old now m s n (calm_quiet n calm)) (λ x inside.
      names_free n x calm (or_right (is_text_in (take 8 (tokens (text_of (codes "aria-labelledby") (body now n)))) x) (is_text_in (take 8 (tokens (text_of (codes "aria-describedby") (body now n)))) x) (is_among (take 8 (tokens (text_of (codes "aria-describedby") (body now n)))) x inside)))

  referring_same : (n : ℕ) → IsCalm n → referring old n ≡ referring now n
  referring_same n calm = λ i. record { spot = quiet_spot old now m s n (calm_quiet n calm) i; text = labelledby_same n calm i }

  calm_children : (n : ℕ) → IsCalm n → children old n ≡ children now n
  calm_children n calm = quiet_children old now m s n (calm_quiet n calm)

  pub said1_same : (n : ℕ) → IsCalm n → said1 old n ≡ said1 now n
  said1_same n calm = from_below_same said1_from (referring old) (referring now) (children old) (children now) IsCalm referring_same calm_children
      (λ n c calm child. calm_child n c calm (subst (λ cs. Contains cs c) (calm_children n calm) child)) 64 n calm

  pub content_same : (n : ℕ) → IsCalm n → content_text old n ≡ content_text now n
  content_same n calm =
      ap (flat_map (child_text old hides (said1 old))) (calm_children n calm)
      ∙ flat_map_same (child_text old hides (said1 old)) (child_text now hides (said1 now)) (children now n) (λ c child.
      let quiet = calm_quiet c (calm_child n c calm child) in
      λ i. spaced (is_block (quiet_body old now m s c quiet i) && not (hides (quiet_spot old now m s c quiet i))) (said1_same c (calm_child n c calm child) i))

  labelled_free : (x : Chars) → IsFree x → (n : ℕ) → labelled_text old x n ≡ labelled_text now x n
  labelled_free x free n =
      λ i. cond (option_map_or (λ t. t == n) (target_same x free i) false)
      (said_of (first_label old x) (first_label now x) (label_same x free) (found_quiet x free (is_label_for x) (carried_for x) refl) i) []

  labelled_own : (n : ℕ) → IsCalm n → (o : Option Chars) → attr (codes "id") (body now n) ≡ o → labelled_text old (unwrap_or o []) n ≡ labelled_text now (unwrap_or o []) n
  labelled_own n calm None is = refl
  labelled_own n calm (Some x) is = labelled_free x (tie_free (body now n) x (untied n calm)
      (or_left (has_id x (body now n)) (names_text x (body now n) || is_label_for x (body now n)) (ap (λ o. option_map_or (bytes_eq x) o false) is ∙ itself x))) n

  host_cases : (n : ℕ) → IsCalm n → (b : Body) → body now n ≡ b → host_label old n b ≡ host_label now n b
  host_cases n calm (Words chars runs) is = refl
  host_cases n calm (Element tag attrs frame) is =
      λ i. cond (bytes_eq tag (codes "img")) (text_in (codes "alt") attrs)
      (cond (is_button_field tag attrs) (text_in (codes "value") attrs)
      (cond (is_field tag) (labelled_own n calm (value_of (codes "id") attrs) (ap (attr (codes "id")) is) i) []))

  pub host_same : (n : ℕ) → IsCalm n → host_label old n (body old n) ≡ host_label now n (body now n)
  host_same n calm = ap (host_label old n) (quiet_body old now m s n (calm_quiet n calm)) ∙ host_cases n calm (body now n) refl

  pub naming_texts_same : (n : ℕ) → IsCalm n → naming_texts old n ≡ naming_texts now n
  naming_texts_same n calm =
      let same = quiet_body old now m s n (calm_quiet n calm) in
      λ i. labelledby_same n calm i
      ∷ text_of (codes "aria-label") (same i)
      ∷ host_same n calm i
      ∷ cond (names_from_content (role (record { id = n; body = same i }))) (content_same n calm i) []
      ∷ []

  pub name_same : (n : ℕ) → IsCalm n → name_of old n ≡ name_of now n
  name_same n calm = λ i. cut (flat (texts i))
    where
      same : body old n ≡ body now n
      same = quiet_body old now m s n (calm_quiet n calm)

      each : (b : Body) → naming_text old n b ≡ naming_text now n b
      each (Words chars runs) = refl
      each (Element tag attrs frame) = λ i. cond (not (name_prohibited (role (record { id = n; body = same i })))) (first_said (naming_texts_same n calm i ++ text_of (codes "title") (same i) ∷ [])) []

      texts : naming_text old n (body old n) ≡ naming_text now n (body now n)
      texts = ap (naming_text old n) same ∙ each (body now n)

  pub description_same : (n : ℕ) → IsCalm n → description_of old n ≡ description_of now n
  description_same n calm = λ i. cut (flat (texts i))
    where
      same : body old n ≡ body now n
      same = quiet_body old now m s n (calm_quiet n calm)

      each : (b : Body) → describing_text old n b ≡ describing_text now n b
      each (Words chars runs) = refl
      each (Element tag attrs frame) = λ i.
          first_said (describedby_same n calm i
          ∷ cond (not (name_prohibited (role (record { id = n; body = same i }))) && is_blank (first_said (naming_texts_same n calm i))) [] (text_of (codes "title") (same i))
          ∷ [])

      texts : describing_text old n (body old n) ≡ describing_text now n (body now n)
      texts = ap (describing_text old n) same ∙ each (body now n)
