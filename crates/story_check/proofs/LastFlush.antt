-- In a closed page the document of the last flush is the one after all edits.
use Rattle.std.proofs.Common.{◌≡◌, ℕ, zero, suc, ◌+◌, ◌<◌, List, [], ◌∷◌, ◌++◌, Bool, true, false, refl, ◌∙◌, arith}
use Rattle.std.specs.Prelude.{if◌then◌else◌}
use Rattle.ax_base.specs.Document.{Document}
use Rattle.ax_dom.specs.Changes.{edited, new_document}
use Rattle.story_check.specs.declared.story.PageLine.{PageLine}
use Rattle.story_check.specs.declared.story.PageLine.TheVariants.{Change, Flush, Until}
use Rattle.story_check.specs.Stories.{flushes, unflushed, closed}
use Rattle.story_check.specs.Moments.{after_edits, after_flushes, document_at}
use Rattle.story_check.specs.Acceptance.{LinesRead, story_of}
use Rattle.story_check.proofs.Caps.{flushes_with}
use Rattle.story_check.proofs.Flushed.{change_same, until_same, flush_same}
use Rattle.story_check.proofs.Sound.{IsSound, after_page}

some_flush : (xs : List PageLine) → 0 < flushes (xs ++ Flush ∷ [])
some_flush xs = let h = flushes_with xs Flush in omega arith

-- where a flush is the last line
at_flush : (d : Document) (xs : List PageLine) → after_flushes d (xs ++ Flush ∷ []) (flushes (xs ++ Flush ∷ [])) ≡ after_page d xs
at_flush d [] = flush_same d [] (flushes (Flush ∷ [])) 0 (omega arith)
at_flush d (Change e ∷ xs) = change_same d e (xs ++ Flush ∷ []) (flushes (xs ++ Flush ∷ [])) (some_flush xs) ∙ at_flush (edited d e) xs
at_flush d (Flush ∷ xs) = flush_same d (xs ++ Flush ∷ []) (1 + flushes (xs ++ Flush ∷ [])) (flushes (xs ++ Flush ∷ [])) (omega arith) ∙ at_flush d xs
at_flush d (Until k ∷ xs) = until_same d k (xs ++ Flush ∷ []) (flushes (xs ++ Flush ∷ [])) (some_flush xs) ∙ at_flush d xs

-- an edit that is flushed stands before a flush
is_flushed : (xs : List PageLine) → unflushed true xs ≡ false → 0 < flushes xs
is_flushed [] e = absurd (cc)
is_flushed (Change x ∷ xs) e = is_flushed xs e
is_flushed (Flush ∷ xs) e = omega arith
is_flushed (Until k ∷ xs) e = is_flushed xs e

fewer_open : (xs : List PageLine) → unflushed true xs ≡ false → unflushed false xs ≡ false
fewer_open [] e = refl
fewer_open (Change x ∷ xs) e = e
fewer_open (Flush ∷ xs) e = e
fewer_open (Until k ∷ xs) e = fewer_open xs e

until_any : (d : Document) (m : ℕ) (xs : List PageLine) (k : ℕ) → after_flushes d (Until m ∷ xs) k ≡ after_flushes d xs k
until_any d m xs zero = refl
until_any d m xs (suc k) = refl

-- where no edit stands behind the last flush
at_last : (d : Document) (xs : List PageLine) → unflushed false xs ≡ false → after_flushes d xs (flushes xs) ≡ after_page d xs
at_last d [] e = refl
at_last d (Change x ∷ xs) e = change_same d x xs (flushes xs) (is_flushed xs e) ∙ at_last (edited d x) xs (fewer_open xs e)
at_last d (Flush ∷ xs) e = flush_same d xs (1 + flushes xs) (flushes xs) (omega arith) ∙ at_last d xs e
at_last d (Until k ∷ xs) e = until_any d k xs (flushes xs) ∙ at_last d xs e

closed_last : (d : Document) (xs : List PageLine) → after_flushes d (closed xs) (flushes (closed xs)) ≡ after_page d xs
closed_last d xs = through (unflushed false xs) refl
  where
    through : (b : Bool) → unflushed false xs ≡ b → after_flushes d (if b then xs ++ Flush ∷ [] else xs) (flushes (if b then xs ++ Flush ∷ [] else xs)) ≡ after_page d xs
    through true e = at_flush d xs
    through false e = at_last d xs e

-- the document after all edits is the one of the last moment
pub last_document : (p : LinesRead) → IsSound p → document_at (story_of p) (flushes (closed p.page)) ≡ p.document
unfolding document_at
last_document p h = closed_last (after_edits new_document p.base) p.page ∙ h.now
