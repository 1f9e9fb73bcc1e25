-- What is kept of a node of which the same is known in two documents.
use Rattle.std.proofs.Common.{◌≡◌, ℕ, not, ◌&&◌, ap, ◌∙◌, Some}
use Rattle.ax_base.specs.AccessibleNames.{name_of, description_of}
use Rattle.ax_base.specs.Document.{Document, body}
use Rattle.ax_base.specs.References.{said1}
use Rattle.ax_base.specs.Roles.{hides}
use Rattle.ax_base.specs.Said.{is_block, nothing_hides, spaced, said0, said_all}
use Rattle.ax_names.specs.Pieces.{piece_of}
use Rattle.said_pass.specs.declared.saids.Saids.{Saids}
use Rattle.said_pass.specs.Saids.{node_text, node_name, IsSaidKept}

module _ (old now : Document) (n : ℕ) (bodies : body old n ≡ body now n) (said : said0 old n ≡ said0 now n) (all_said : said_all old n ≡ said_all now n)
    (part : said1 old n ≡ said1 now n) (name : name_of old n ≡ name_of now n) (description : description_of old n ≡ description_of now n) where
  text_same : node_text old n ≡ node_text now n
  text_same = λ i. record {
    shown = piece_of (spaced (is_block (bodies i) && not (hides (record { id = n; body = bodies i }))) (said i));
    whole = piece_of (spaced (is_block (bodies i) && not (nothing_hides (record { id = n; body = bodies i }))) (all_said i));
  }

  name_same : node_name old n ≡ node_name now n
  name_same = λ i. record {
    part = piece_of (spaced (is_block (bodies i) && not (hides (record { id = n; body = bodies i }))) (part i));
    name = name i;
    description = description i;
  }

  -- what is kept of it is right for both
  pub kept_same : (s : Saids) → IsSaidKept old s n → IsSaidKept now s n
  kept_same s kept = record { text = kept.text ∙ ap Some text_same; name = kept.name ∙ ap Some name_same }
