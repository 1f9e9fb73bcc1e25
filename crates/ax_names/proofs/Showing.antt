-- What a node says, by the cell that was read, whichever nodes count.
use Rattle.std.proofs.Common.{◌≡◌, ℕ, ◌+◌, ◌-◌, ◌*◌, ◌<◌, Bool, true, false, cond, ◌==◌, List, [], ◌∷◌, ◌++◌, length, get_or, take, codes, sym, ap, ◌∙◌, arith, add-one, append-nil}
use Rattle.std.proofs.Math.Seq.{take-suc}
use Rattle.std.proofs.lemmas.Grind.{flat_map-append}
use Rattle.std.specs.List.{flat_map}
use Rattle.ax_base.specs.declared.attrs.Attr.{Attr}
use Rattle.ax_base.specs.declared.body.Body.{Body}
use Rattle.ax_base.specs.declared.body.Body.TheVariants.{Element, Words}
use Rattle.ax_base.specs.declared.rect.Rect.{Rect}
use Rattle.ax_base.specs.declared.rect.Run.{Run}
use Rattle.ax_base.specs.declared.role.Role.{Role}
use Rattle.ax_base.specs.Characters.{Chars, is_blank}
use Rattle.ax_base.specs.Values.{text_in}
use Rattle.ax_base.specs.Document.{Document, Spot, root, depth, body, spot, text_of, IsChild}
use Rattle.ax_base.specs.Trees.{IsTree}
use Rattle.ax_base.specs.Roles.{role, role_of}
use Rattle.ax_base.specs.Said.{said_by}
use Rattle.ax_base.proofs.Places.{depth-level, has_children}
use Rattle.ax_names.specs.OwnTexts.{element_shows}
use Rattle.ax_names.specs.Scopes.{AreSaid, children_say}
use Rattle.ax_names.proofs.Speaking.{element_is}

pub falls_below : (d : Document) → IsTree d → (n c : ℕ) → IsChild d n c → 5 * (65 - depth d c) + 4 < 5 * (65 - depth d n)
falls_below d t n c child =
    let e = depth-level d t n (has_children d n c child) in
    let f = depth-level d t c (t.known n c child) in
    let s = t.shallow c in
    let u = t.deeper n c child in
    omega arith

-- the texts of some nodes, with that of one more
pub one_more_text : (text : ℕ → Chars) (k c : ℕ) (cs : List ℕ) → k < length cs → c ≡ get_or cs k c → flat_map text (take (k + 1) cs) ≡ flat_map text (take k cs) ++ text c
one_more_text text k c cs low is =
    ap (flat_map text) (ap (λ j. take j cs) (add-one k) ∙ take-suc cs k c low ∙ ap (λ x. take k cs ++ x ∷ []) (sym is))
    ∙ flat_map-append text (take k cs) (c ∷ []) ∙ ap (λ l. flat_map text (take k cs) ++ l) (append-nil (text c))

-- what an element says whose own references count
pub shows_is : (referred : Chars) (r : Role) (tag : Chars) (attrs : List Attr) (frame : Rect) (below : Chars) → said_by r referred (Element tag attrs frame) below ≡ element_shows referred r tag attrs below
shows_is referred r tag attrs frame below = ap (λ l. cond (is_blank referred) l referred) (element_is r tag attrs frame below)

module _ (left_out : Spot → Bool) (refers : Document → Chars → Chars) (says : Document → ℕ → Chars) (tells : AreSaid left_out refers says) (d : Document) (t : IsTree d) (n : ℕ) (b : Body) (is : b ≡ body d n)
    (h : Bool) (test : h ≡ left_out (record { id = n; body = b })) where
  -- what the children of the node say
  abbrev below : Chars
  below = children_say d left_out (says d) n

  -- what a node of that body says which is not left out
  abbrev whole : Body → Chars
  whole v = said_by (role (spot d n)) (refers d (text_of (codes "aria-labelledby") v)) v below

  at_spot : h ≡ left_out (spot d n)
  at_spot = test ∙ ap (λ v. left_out (record { id = n; body = v })) is

  -- what is left out says nothing
  pub says_nothing : h ≡ true → [] ≡ says d n
  says_nothing on = sym (tells d t n ∙ ap (λ v. cond v [] (whole (body d n))) (sym at_spot ∙ on))

  shown : h ≡ false → whole b ≡ says d n
  shown off = ap whole is ∙ sym (tells d t n ∙ ap (λ v. cond v [] (whole (body d n))) (sym at_spot ∙ off))

  -- a text says its characters
  pub says_words : h ≡ false → (chars : Chars) (runs : List Run) → b ≡ Words chars runs → (said : Chars) → said ≡ chars → said ≡ says d n
  says_words off chars runs words said same = same ∙ ap whole (sym words) ∙ shown off

  -- an element says what its references, its own texts and its children say
  pub says_element : h ≡ false → (r : Role) → r ≡ role_of (n == root) b → (tag : Chars) (attrs : List Attr) (frame : Rect) → b ≡ Element tag attrs frame
      → (named : Chars) → named ≡ tag → element_shows (refers d (text_in (codes "aria-labelledby") attrs)) r named attrs below ≡ says d n
  says_element off r known tag attrs frame element named same =
      let referred : Chars = refers d (text_in (codes "aria-labelledby") attrs) in
      ap (λ v. element_shows referred r v attrs below) same
      ∙ ap (λ v. element_shows referred v tag attrs below) (known ∙ ap (λ v. role_of (n == root) v) is)
      ∙ sym (shows_is referred (role (spot d n)) tag attrs frame below)
      ∙ ap whole (sym element) ∙ shown off
