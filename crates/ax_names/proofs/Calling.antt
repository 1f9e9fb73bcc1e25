-- What an element is called, by the cell that was read.
use Rattle.std.proofs.Common.{◌≡◌, ℕ, Bool, true, false, cond, not, ◌&&◌, ◌==◌, Some, List, [], ◌∷◌, ◌++◌, codes, refl, sym, ap, ◌∙◌}
use Rattle.std.specs.Option.{option_map_or}
use Rattle.ax_base.specs.declared.attrs.Attr.{Attr}
use Rattle.ax_base.specs.declared.body.Body.{Body}
use Rattle.ax_base.specs.declared.body.Body.TheVariants.{Element, Words}
use Rattle.ax_base.specs.declared.rect.Rect.{Rect}
use Rattle.ax_base.specs.declared.rect.Run.{Run}
use Rattle.ax_base.specs.declared.role.Role.{Role}
use Rattle.ax_base.specs.Characters.{Chars, is_blank, flat, cut, first_said}
use Rattle.ax_base.specs.Values.{text_in}
use Rattle.ax_base.specs.Document.{Document, root, body, spot, target, text_of}
use Rattle.ax_base.specs.Roles.{role, role_of}
use Rattle.ax_base.specs.NamedRoles.{names_from_content, name_prohibited}
use Rattle.ax_base.specs.References.{referred_node}
use Rattle.ax_base.specs.AccessibleNames.{first_label, labelled_text, host_label, content_text, naming_texts, naming_text, title_of, describing_text, is_named_by_title, name_of, description_of}
use Rattle.ax_names.specs.Pieces.{Phrase, piece_of}
use Rattle.ax_names.specs.declared.naming.Named.{Named}
use Rattle.ax_names.specs.OwnTexts.{said_or, title_said, described_from}
use Rattle.ax_names.specs.Sessions.{referred_by, called_by, element_name, is_named_late, element_description, named_by}
use Rattle.ax_names.proofs.Added.{flat_nil}
use Rattle.ax_names.proofs.Openings.{take_nil}

-- what the label of a node says, where its id names it
pub labelled_is : (d : Document) (text : Chars) (n first label : ℕ) (new : Phrase) → Some first ≡ target d text → (first == n) ≡ true → Some label ≡ first_label d text → new ≡ piece_of (referred_node d label)
    → new ≡ piece_of (labelled_text d text n)
labelled_is d text n first label new names same labels added = added ∙ ap piece_of (sym given)
  where
    given : labelled_text d text n ≡ referred_node d label
    given =
        ap (λ o. cond (option_map_or (λ t. t == n) o false) (option_map_or (referred_node d) (first_label d text) []) []) (sym names)
        ∙ ap (λ b. cond b (option_map_or (referred_node d) (first_label d text) []) []) same ∙ ap (λ o. option_map_or (referred_node d) o []) (sym labels)

-- the first that is not blank of some texts and one more
first_of_more : (ts : List Chars) (t : Chars) → first_said (ts ++ t ∷ []) ≡ said_or (first_said ts) (first_said (t ∷ []))
first_of_more [] t = refl
first_of_more (x ∷ ts) t = go (is_blank x) refl (first_of_more ts t)
  where
    go : (b : Bool) → is_blank x ≡ b → first_said (ts ++ t ∷ []) ≡ said_or (first_said ts) (first_said (t ∷ [])) → cond b (first_said (ts ++ t ∷ [])) x ≡ said_or (cond b (first_said ts) x) (first_said (t ∷ []))
    go true e rest = rest
    go false e rest = sym (ap (λ v. cond v (first_said (t ∷ [])) x) e)

-- the texts that may name an element, by what it is
abbrev texts : Document → ℕ → Body → Role → List Chars
texts d n b r =
    referred_by d (text_of (codes "aria-labelledby") b) ∷ text_of (codes "aria-label") b ∷ host_label d n b ∷ cond (names_from_content r) (content_text d n) [] ∷ []

-- the texts that describe an element, by what it is
abbrev describing : Document → Body → Bool → Chars
describing d b named = first_said (referred_by d (text_of (codes "aria-describedby") b) ∷ cond named [] (text_of (codes "title") b) ∷ [])

-- a second text that is left out, or not if it is blank
second_is : (named : Bool) (a t : Chars) → first_said (a ∷ cond named [] t ∷ []) ≡ said_or a (cond named [] (first_said (t ∷ [])))
second_is true a t = refl
second_is false a t = refl

module _ (d : Document) (n : ℕ) (b : Body) (is : b ≡ body d n) where
  -- a text is described by nothing
  pub words_described : (chars : Chars) (runs : List Run) → b ≡ Words chars runs → (said : Chars) → said ≡ [] → said ≡ description_of d n
  words_described chars runs words said nothing =
      nothing ∙ sym (take_nil 512) ∙ ap cut (sym flat_nil) ∙ ap (λ v. cut (flat (describing_text d n v))) (sym words ∙ is)

  module _ (r : Role) (known : r ≡ role_of (n == root) b) (tag : Chars) (attrs : List Attr) (frame : Rect) (element : b ≡ Element tag attrs frame) where
    body_is : Element tag attrs frame ≡ body d n
    body_is = sym element ∙ is

    role_is : r ≡ role (spot d n)
    role_is = known ∙ ap (λ v. role_of (n == root) v) is

    called_is : called_by d n r tag attrs ≡ first_said (naming_texts d n)
    called_is = λ i. first_said (texts d n (body_is i) (role_is i))

    pub late_is : is_named_late d n r tag attrs ≡ is_named_by_title d n
    late_is = λ i. not (name_prohibited (role_is i)) && is_blank (called_is i)

    turned : (p : Bool) (x y : Chars) → cond p x y ≡ cond (not p) y x
    turned true x y = refl
    turned false x y = refl

    -- the name of an element
    pub name_is : (named : Chars) → named ≡ tag → element_name d n r named attrs ≡ name_of d n
    name_is named same =
        ap (λ v. element_name d n r v attrs) same
        ∙ ap (λ t. cut (flat t)) (
        turned (name_prohibited r) [] (said_or (called_by d n r tag attrs) (title_said attrs))
        ∙ (λ i. cond (not (name_prohibited (role_is i))) (said_or (called_is i) (first_said (text_of (codes "title") (body_is i) ∷ []))) [])
        ∙ ap (λ t. cond (not (name_prohibited (role (spot d n)))) t []) (sym (first_of_more (naming_texts d n) (title_of d n)))
        )
        ∙ ap (λ v. cut (flat (naming_text d n v))) body_is

    -- the description of an element
    pub description_is : (named : Chars) → named ≡ tag → element_description d n r named attrs ≡ description_of d n
    description_is named same =
        ap (λ v. element_description d n r v attrs) same
        ∙ ap (λ t. cut (flat t)) (
        sym (second_is (is_named_late d n r tag attrs) (referred_by d (text_of (codes "aria-describedby") (Element tag attrs frame))) (text_of (codes "title") (Element tag attrs frame)))
        ∙ (λ i. describing d (body_is i) (late_is i))
        )
        ∙ ap (λ v. cut (flat (describing_text d n v))) body_is

    -- the same of what was made
    pub made_named : (named : Chars) → named ≡ tag → (made : Named) → made ≡ named_by d n r named attrs → made.name ≡ name_of d n
    made_named named same made is_made = ap (λ (x : Named). x.name) is_made ∙ name_is named same

    pub made_described : (named : Chars) → named ≡ tag → (made : Named) → made ≡ named_by d n r named attrs
        → (said : Chars) → said ≡ described_from attrs (referred_by d (text_in (codes "aria-describedby") attrs)) made.by_title → said ≡ description_of d n
    made_described named same made is_made said told =
        told ∙ ap (λ (x : Named). described_from attrs (referred_by d (text_in (codes "aria-describedby") attrs)) x.by_title) is_made ∙ description_is named same
