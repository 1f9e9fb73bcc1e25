-- What a node is called, by the body that was read.
use Rattle.std.proofs.Common.{◌≡◌, ℕ, List, Bool, ◌==◌, codes, refl, sym, ap, ◌∙◌}
use Rattle.ax_base.specs.declared.attrs.Attr.{Attr}
use Rattle.ax_base.specs.declared.body.Body.{Body}
use Rattle.ax_base.specs.declared.body.Body.TheVariants.{Element, Words}
use Rattle.ax_base.specs.declared.rect.Rect.{Rect}
use Rattle.ax_base.specs.declared.rect.Run.{Run}
use Rattle.ax_base.specs.declared.role.Role.{Role}
use Rattle.ax_base.specs.AccessibleNames.{host_label_of, content_text, naming_text, name_of, description_of}
use Rattle.ax_base.specs.Characters.{Chars, flat, cut}
use Rattle.ax_base.specs.Document.{Document, root, body, text_of}
use Rattle.ax_base.specs.Roles.{role_of}
use Rattle.ax_base.specs.Values.{text_in}
use Rattle.ax_names.specs.declared.naming.Named.{Named}
use Rattle.ax_names.specs.OwnTexts.{named_from, described_from}
use Rattle.ax_names.specs.Pieces.{Phrase, piece_of}
use Rattle.ax_names.specs.Sessions.{referred_by}
use Rattle.ax_names.proofs.Calling.{name_is, late_is, description_is}
use Rattle.said_pass.specs.Saids.{is_title_name}

module _ (d : Document) (n : ℕ) (b : Body) (is : b ≡ body d n) where
  -- a text is called by its characters
  pub words_called : (chars : Chars) (runs : List Run) → b ≡ Words chars runs → (said name : Chars) → said ≡ chars → name ≡ cut (flat said) → name ≡ name_of d n
  words_called chars runs words said name same made = made ∙ ap (λ t. cut (flat t)) same ∙ ap (λ v. cut (flat (naming_text d n v))) (sym words ∙ is)

  module _ (tag : Chars) (attrs : List Attr) (frame : Rect) (element : b ≡ Element tag attrs frame) where
    -- what its references, its host language and its children say
    abbrev Told : Phrase → Phrase → Phrase → Role → Named → Type 0
    Told referred label below r named = (x l w : Chars) → referred ≡ piece_of x → label ≡ piece_of l → below ≡ piece_of w → named ≡ named_from r attrs x l w

    module _ (r : Role) (known : r ≡ role_of (n == root) b) (named : Chars) (same : named ≡ tag) (referred label below : Phrase) (refers : referred ≡ piece_of (referred_by d (text_of (codes "aria-labelledby") b)))
        (labels : label ≡ piece_of (host_label_of d n named attrs)) (inside : below ≡ piece_of (content_text d n)) (made : Named) (told : Told referred label below r made) where
      called : made ≡ named_from r attrs (referred_by d (text_in (codes "aria-labelledby") attrs)) (host_label_of d n tag attrs) (content_text d n)
      called =
          told (referred_by d (text_in (codes "aria-labelledby") attrs)) (host_label_of d n tag attrs) (content_text d n)
          (refers ∙ ap (λ v. piece_of (referred_by d (text_of (codes "aria-labelledby") v))) element) (labels ∙ ap (λ v. piece_of (host_label_of d n v attrs)) same) inside

      pub element_called : made.name ≡ name_of d n
      element_called = ap (λ (x : Named). x.name) called ∙ name_is d n b is r known tag attrs frame element tag refl

      pub title_called : made.by_title ≡ is_title_name d n b
      title_called = ap (λ (x : Named). x.by_title) called ∙ late_is d n b is r known tag attrs frame element ∙ ap (is_title_name d n) (sym element)

    -- what an element is described by
    pub element_described : (by_title : Bool) → by_title ≡ is_title_name d n b → (referred : Phrase) (t : Chars) → referred ≡ piece_of (referred_by d (text_in (codes "aria-describedby") attrs))
        → ((x : Chars) → referred ≡ piece_of x → t ≡ described_from attrs x by_title) → t ≡ description_of d n
    element_described by_title titled referred t refers made =
        made (referred_by d (text_in (codes "aria-describedby") attrs)) refers
        ∙ ap (described_from attrs (referred_by d (text_in (codes "aria-describedby") attrs))) (
        titled ∙ ap (is_title_name d n) element ∙ sym (late_is d n b is (role_of (n == root) b) refl tag attrs frame element)
        )
        ∙ description_is d n b is (role_of (n == root) b) refl tag attrs frame element tag refl
