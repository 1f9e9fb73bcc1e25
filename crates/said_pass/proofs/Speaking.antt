-- What a node says for its parent, from what its children say.
use Rattle.std.proofs.Common.{◌≡◌, ℕ, [], Bool, true, false, cond, not, ◌&&◌, codes, refl, sym, ap, ◌∙◌}
use Rattle.std.specs.List.{flat_map}
use Rattle.ax_base.specs.declared.body.Body.{Body}
use Rattle.ax_base.specs.AccessibleNames.{content_text}
use Rattle.ax_base.specs.Characters.{Chars}
use Rattle.ax_base.specs.Document.{Document, body, spot, children, text_of}
use Rattle.ax_base.specs.References.{said1}
use Rattle.ax_base.specs.Roles.{role, hides}
use Rattle.ax_base.specs.Said.{child_text, nothing_hides, spaced, is_block, said_by, said0, said_all}
use Rattle.ax_base.specs.Trees.{IsTree}
use Rattle.ax_base.proofs.SaidLaws.{said0-children, said_all-children, said1-children}
use Rattle.ax_names.specs.OwnTexts.{said_as_child}
use Rattle.ax_names.specs.Pieces.{Phrase, piece_of}
use Rattle.ax_names.specs.Sessions.{referred_by}
use Rattle.said_pass.specs.declared.texts.NodeText.{NodeText}
use Rattle.said_pass.specs.Saids.{kept_text, node_text, children_text, text_from}

-- what hides stands between no spaces
silent_child : (h b : Bool) (t : Chars) → spaced (b && not h) (cond h [] t) ≡ cond h [] (spaced b t)
silent_child true true t = refl
silent_child true false t = refl
silent_child false true t = refl
silent_child false false t = refl

module _ (d : Document) (t : IsTree d) (n : ℕ) where
  -- what the children of the node say, joined
  abbrev shown : Chars
  shown = flat_map (child_text d hides (said0 d)) (children d n)

  abbrev whole : Chars
  whole = flat_map (child_text d nothing_hides (said_all d)) (children d n)

  shown_is : child_text d hides (said0 d) n ≡ said_as_child (hides (spot d n)) (role (spot d n)) [] (body d n) shown
  shown_is = ap (spaced (is_block (body d n) && not (hides (spot d n)))) (said0-children d t n) ∙ silent_child (hides (spot d n)) (is_block (body d n)) (said_by (role (spot d n)) [] (body d n) shown)

  whole_is : child_text d nothing_hides (said_all d) n ≡ said_as_child false (role (spot d n)) [] (body d n) whole
  whole_is = ap (spaced (is_block (body d n) && true)) (said_all-children d t n) ∙ silent_child false (is_block (body d n)) (said_by (role (spot d n)) [] (body d n) whole)

  -- where no reference is followed
  pub text_is : text_from (spot d n) shown whole ≡ node_text d n
  text_is = λ i. record { shown = piece_of (sym shown_is i); whole = piece_of (sym whole_is i) }

  -- by the body that was read
  pub text_told : (b : Body) → b ≡ body d n → (inside text : NodeText) → inside ≡ children_text d (children d n)
      → ((s w : Chars) → inside ≡ kept_text s w → text ≡ text_from (record { id = n; body = b }) s w) → text ≡ node_text d n
  text_told b is inside text same made = made shown whole same ∙ ap (λ v. text_from (record { id = n; body = v }) shown whole) is ∙ text_is

  -- where its own references count
  part_is : said_as_child (hides (spot d n)) (role (spot d n)) (referred_by d (text_of (codes "aria-labelledby") (body d n))) (body d n) (content_text d n) ≡ child_text d hides (said1 d) n
  part_is = sym (
      ap (spaced (is_block (body d n) && not (hides (spot d n)))) (said1-children d t n)
      ∙ silent_child (hides (spot d n)) (is_block (body d n)) (said_by (role (spot d n)) (referred_by d (text_of (codes "aria-labelledby") (body d n))) (body d n) (content_text d n))
      )

  pub part_told : (b : Body) → b ≡ body d n → (referred content part : Phrase) → referred ≡ piece_of (referred_by d (text_of (codes "aria-labelledby") b)) → content ≡ piece_of (content_text d n)
      → ((r w : Chars) → referred ≡ piece_of r → content ≡ piece_of w → part ≡ piece_of (said_as_child (hides (record { id = n; body = b })) (role (record { id = n; body = b })) r b w))
      → part ≡ piece_of (child_text d hides (said1 d) n)
  part_told b is referred content part refers inside made =
      made (referred_by d (text_of (codes "aria-labelledby") b)) (content_text d n) refers inside
      ∙ ap (λ v. piece_of (said_as_child (hides (record { id = n; body = v })) (role (record { id = n; body = v })) (referred_by d (text_of (codes "aria-labelledby") v)) v (content_text d n))) is
      ∙ ap piece_of part_is
