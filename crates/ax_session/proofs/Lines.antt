-- The lines of an object and of those below it.
use Rattle.std.proofs.Common.{◌≡◌, ℕ, zero, suc, ◌-◌, ◌<◌, List, [], ◌∷◌, ◌++◌, map, Some, None, refl, sym, ap, ◌∙◌, arith, append_assoc, append-nil}
use Rattle.std.specs.List.{flat_map}
use Rattle.std.specs.Option.{option_map_or}
use Rattle.ax_base.specs.Characters.{Chars}
use Rattle.ax_base.specs.Document.{Document, root}
use Rattle.ax_base.specs.Recursion.{from_below}
use Rattle.ax_record.specs.declared.record.Record.{Record}
use Rattle.ax_record.specs.Tree.{Tree, record_at, kids_of}
use Rattle.ax_record.specs.Records.{tree}
use Rattle.ax_ask.specs.Transcripts.{end_line}
use Rattle.story_check.specs.Stories.{Story, flushes}
use Rattle.story_check.specs.Moments.{document_at, tree_at}
use Rattle.ax_session.specs.Texts.{record_line, object_line, within, lines_within, document_text, dump_text}

flat_map-append : (f : ℕ → List ℕ) (xs ys : List ℕ) → flat_map f (xs ++ ys) ≡ flat_map f xs ++ flat_map f ys
flat_map-append f [] ys = refl
flat_map-append f (x ∷ xs) ys = ap (λ l. f x ++ l) (flat_map-append f xs ys) ∙ sym (append_assoc (f x) (flat_map f xs) (flat_map f ys))

module _ (t : Tree) where
  flat_below : (levels : ℕ) (ks : List ℕ) → flat_map (object_line t) (flat_map (λ (c : ℕ × List ℕ). c.1) (map (λ k. (k, within t levels k)) ks)) ≡ flat_map (lines_within t levels) ks
  flat_below levels [] = refl
  flat_below levels (k ∷ ks) =
      flat_map-append (object_line t) (within t levels k) (flat_map (λ (c : ℕ × List ℕ). c.1) (map (λ j. (j, within t levels j)) ks))
      ∙ ap (λ l. lines_within t levels k ++ l) (flat_below levels ks)

  lowest : (n : ℕ) → lines_within t 0 n ≡ object_line t n
  unfolding from_below
  lowest n = append-nil (object_line t n)

  -- with one more level come the lines of the kids
  above : (levels n : ℕ) → lines_within t (suc levels) n ≡ object_line t n ++ flat_map (lines_within t levels) (kids_of t n)
  unfolding from_below
  above levels n = ap (λ l. object_line t n ++ l) (flat_below levels (kids_of t n))

  line_is : (n : ℕ) (r : Record) → Some r ≡ record_at t n → record_line r ≡ object_line t n
  line_is n r is = ap (λ o. option_map_or record_line o []) is

  kids_are : (n : ℕ) (r : Record) → Some r ≡ record_at t n → r.kids ≡ kids_of t n
  kids_are n r is = ap (λ o. option_map_or (λ (x : Record). x.kids) o []) is

  no_lines : (levels n : ℕ) → None ≡ record_at t n → lines_within t levels n ≡ []
  no_lines zero n is = lowest n ∙ ap (λ o. option_map_or record_line o []) (sym is)
  no_lines (suc levels) n is =
      above levels n ∙ ap (λ o. option_map_or record_line o [] ++ flat_map (lines_within t levels) (option_map_or (λ (x : Record). x.kids) o [])) (sym is)

  -- no object
  pub none_there : (levels n : ℕ) (old : Chars) → None ≡ record_at t n → old ≡ old ++ lines_within t levels n
  none_there levels n old is = sym (ap (λ l. old ++ l) (no_lines levels n is) ∙ append-nil old)

  -- an object at the last level
  pub alone : (levels n : ℕ) (r : Record) (old new : Chars) → Some r ≡ record_at t n → levels ≡ 0 → new ≡ old ++ record_line r → new ≡ old ++ lines_within t levels n
  alone levels n r old new is last line = line ∙ ap (λ l. old ++ l) (line_is n r is ∙ sym (ap (λ m. lines_within t m n) last ∙ lowest n))

  -- an object above the last level
  pub with_kids : (levels n : ℕ) (r : Record) (old mid new : Chars) (ks : List ℕ) → Some r ≡ record_at t n → 0 < levels → ks ≡ r.kids
      → mid ≡ old ++ record_line r → new ≡ mid ++ flat_map (lines_within t (levels - 1)) ks → new ≡ old ++ lines_within t levels n
  with_kids levels n r old mid new ks is high same line rest =
      let next : suc (levels - 1) ≡ levels = omega arith in
      rest ∙ ap (λ l. l ++ flat_map (lines_within t (levels - 1)) ks) (line ∙ ap (λ l. old ++ l) (line_is n r is))
      ∙ append_assoc old (object_line t n) (flat_map (lines_within t (levels - 1)) ks)
      ∙ ap (λ l. old ++ (object_line t n ++ flat_map (lines_within t (levels - 1)) l)) (same ∙ kids_are n r is)
      ∙ ap (λ l. old ++ l) (sym (above (levels - 1) n) ∙ ap (λ m. lines_within t m n) next)

-- the whole text
pub whole_text : (d : Document) (t : Tree) (start mid new : Chars) (n f : ℕ) → t ≡ tree d → n ≡ root
    → start ≡ [] → mid ≡ start ++ lines_within t 128 n → new ≡ mid ++ end_line f → new ≡ document_text d f
unfolding document_text
whole_text d t start mid new n f is top empty lines ended =
    ended ∙ ap (λ l. l ++ end_line f) (lines ∙ ap (λ l. l ++ lines_within t 128 n) empty ∙ ap (λ m. lines_within t 128 m) top ∙ ap (λ x. lines_within x 128 root) is)

-- the text of the document of a story's last moment is that of the story
pub last_text : (s : Story) (d : Document) (f : ℕ) → d ≡ document_at s (flushes s.page) → f ≡ flushes s.page → document_text d f ≡ dump_text s
unfolding document_text dump_text tree_at
last_text s d f is all = λ i. lines_within (tree (is i)) 128 root ++ end_line (all i)
