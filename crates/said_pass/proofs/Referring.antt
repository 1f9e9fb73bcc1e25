-- What references say, from what is kept of the nodes that they name.
use Rattle.std.proofs.Common.{◌≡◌, ℕ, List, [], Bool, true, false, cond, not, ◌&&◌, ◌==◌, Option, Some, None, sym, ap, ◌∙◌}
use Rattle.std.specs.Option.{option_map_or}
use Rattle.ax_base.specs.AccessibleNames.{first_label, labelled_text, is_label_for}
use Rattle.ax_base.specs.Characters.{Chars, flat}
use Rattle.ax_base.specs.Context.{is_hidden}
use Rattle.ax_base.specs.Document.{Document, body, spot, has, order, target}
use Rattle.ax_base.specs.References.{referred_node, referred_text}
use Rattle.ax_base.specs.Roles.{hides}
use Rattle.ax_base.specs.Said.{child_text, nothing_hides, is_block, said0, said_all}
use Rattle.ax_names.specs.Pieces.{Phrase, piece_of, joined, flattened}
use Rattle.ax_names.proofs.Added.{flat_nil}
use Rattle.ax_names.proofs.Again.{flat_kept}
use Rattle.ax_names.proofs.Between.{flat_between}
use Rattle.ax_names.proofs.Joining.{pieces_join}
use Rattle.ctx_pass.specs.declared.contexts.Context.{Context}
use Rattle.ctx_pass.specs.declared.standing.Standing.{Standing}
use Rattle.ctx_pass.specs.Contexts.{context_of}
use Rattle.dom_ids.specs.declared.index.IdIndex.{IdIndex}
use Rattle.dom_ids.specs.Index.{labels}
use Rattle.dom_ids.specs.Ordering.{first_in}
use Rattle.dom_ids.proofs.Staying.{first_of_filter}
use Rattle.said_pass.specs.declared.texts.NodeText.{NodeText}
use Rattle.said_pass.specs.Saids.{node_text, text_at, said_by_target, said_by_token, AreSourcesOf}

-- the first of the labels is the first label
pub first_label_is : (d : Document) (x : Chars) → first_in (labels d x) ≡ first_label d x
first_label_is d x = first_of_filter (λ n. is_label_for x (body d n)) (order d)

-- What is kept of a node that is referred to:
module _ (d : Document) (index : IdIndex) (contexts : List (ℕ × Standing)) (texts : List (ℕ × NodeText)) (sources : AreSourcesOf d index contexts texts) (n : ℕ) (there : has d n ≡ true) where
  kept_is : (text : NodeText) → Some text ≡ text_at texts n → text ≡ node_text d n
  kept_is text found = let right = sources.are_texts n there in cc

  pub none_kept : {A : Type 0} → None ≡ text_at texts n → A
  none_kept none = let right = sources.are_texts n there in absurd (cc)

  module _ (text : NodeText) (found : Some text ≡ text_at texts n) (context : Context) (is : context ≡ context_of d n) where
    pub whole_said : context.hidden ≡ true → text.whole ≡ piece_of (said_by_target d n)
    whole_said on =
        ap (λ (x : NodeText). x.whole) (kept_is text found)
        ∙ ap (λ h. piece_of (cond h (child_text d nothing_hides (said_all d) n) (child_text d hides (said0 d) n))) (sym on ∙ ap (λ (x : Context). x.hidden) is)

    pub shown_said : context.hidden ≡ false → text.shown ≡ piece_of (said_by_target d n)
    shown_said off =
        ap (λ (x : NodeText). x.shown) (kept_is text found)
        ∙ ap (λ h. piece_of (cond h (child_text d nothing_hides (said_all d) n) (child_text d hides (said0 d) n))) (sym off ∙ ap (λ (x : Context). x.hidden) is)

-- the spaces around what a node says are gone once it is flat
pub target_flat : (d : Document) (n : ℕ) → flat (said_by_target d n) ≡ referred_node d n
target_flat d n = go (is_hidden d n)
  where
    go : (h : Bool) → flat (cond h (child_text d nothing_hides (said_all d) n) (child_text d hides (said0 d) n)) ≡ flat (cond h (said_all d n) (said0 d n))
    go true = flat_between (is_block (body d n) && not (nothing_hides (spot d n))) (said_all d n)
    go false = flat_between (is_block (body d n) && not (hides (spot d n))) (said0 d n)

pub token_flat : (d : Document) (token : Chars) → flat (said_by_token d token) ≡ referred_text d token
token_flat d token = go (target d token)
  where
    go : (o : Option ℕ) → flat (option_map_or (said_by_target d) o []) ≡ option_map_or (referred_node d) o []
    go None = flat_nil
    go (Some n) = target_flat d n

-- Where the id of a node names it:
module _ (d : Document) (text : Chars) (n first : ℕ) (names : Some first ≡ target d text) where
  -- the label is asked
  asked : (b : Bool) → (first == n) ≡ b → labelled_text d text n ≡ cond b (option_map_or (referred_node d) (first_label d text) []) []
  asked b same =
      ap (λ o. cond (option_map_or (λ t. t == n) o false) (option_map_or (referred_node d) (first_label d text) []) []) (sym names)
      ∙ ap (λ c. cond c (option_map_or (referred_node d) (first_label d text) []) []) same

  pub other_named : (first == n) ≡ false → [] ≡ labelled_text d text n
  other_named off = sym (asked false off)

  pub no_label : (first == n) ≡ true → None ≡ first_label d text → [] ≡ labelled_text d text n
  no_label on none = sym (asked true on ∙ ap (λ o. option_map_or (referred_node d) o []) (sym none))

  pub labelled_is : (label : ℕ) (old mid new : Phrase) → (first == n) ≡ true → Some label ≡ first_label d text → old ≡ piece_of [] → mid ≡ joined old (piece_of (said_by_target d label)) → new ≡ flattened mid
      → new ≡ piece_of (labelled_text d text n)
  labelled_is label old mid new on labels nothing added flat_is =
      flat_is ∙ ap flattened (added ∙ ap (λ p. joined p (piece_of (said_by_target d label))) nothing ∙ sym (pieces_join [] (said_by_target d label)))
      ∙ sym (flat_kept (said_by_target d label)) ∙ ap piece_of (target_flat d label ∙ sym (asked true on ∙ ap (λ o. option_map_or (referred_node d) o []) (sym labels)))

-- nothing is named
pub none_named : (d : Document) (text : Chars) (n : ℕ) → None ≡ target d text → [] ≡ labelled_text d text n
none_named d text n none = sym (ap (λ o. cond (option_map_or (λ t. t == n) o false) (option_map_or (referred_node d) (first_label d text) []) []) (sym none))
