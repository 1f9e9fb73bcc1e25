-- Marks that mean the same.
use Rattle.std.specs.Prelude.{◌≡◌, ℕ}
use Rattle.ax_base.specs.Characters.{Chars}
use Rattle.ax_dom.specs.Among.{is_in}
use Rattle.dom_ids.specs.References.{is_text_in}
use Rattle.dirty_set.specs.Reach.{Marked}

-- Two marks have the same nodes, roots and texts, in any order and any number of times.
pub record AreAlike (a b : Marked) : Type 0 where
  pub nodes : (n : ℕ) → is_in a.nodes n ≡ is_in b.nodes n
  pub roots : (n : ℕ) → is_in a.roots n ≡ is_in b.roots n
  pub texts : (x : Chars) → is_text_in a.texts x ≡ is_text_in b.texts x
