-- The records that a walk puts in, in its order.
use Rattle.std.specs.Prelude.{ℕ, List, [], ◌∷◌, ◌++◌, Contains}
use Rattle.std.specs.List.{flat_map}
use Rattle.std.specs.Ordering.{nat_cmp}
use Rattle.std.specs.BTreeMap.{insert_entry}
use Rattle.ax_base.specs.Document.{Document}
use Rattle.ax_base.specs.Kids.{kids, objects, from_kids}
use Rattle.ax_record.specs.declared.record.Record.{Record}
use Rattle.ax_record.specs.Records.{record_of}

-- entries with the records of some objects put in, one after another
abbrev pub with_records : Document → List (ℕ × Record) → List ℕ → List (ℕ × Record)
with_records d es [] = es
with_records d es (k ∷ ks) = with_records d (insert_entry nat_cmp es k (record_of d k)) ks

-- what is below each kid of an object, and then the object
abbrev pub put_from : ℕ → List (ℕ × List ℕ) → List ℕ
put_from n below = flat_map (λ c. c.1) below ++ n ∷ []

-- the objects at or below an object, each after those below it
unfoldable pub put_order : Document → ℕ → List ℕ
put_order d n = from_kids put_from d n

-- each of these is a kid of n, which is an object
abbrev pub AreKidsOf : Document → ℕ → List ℕ → Type 0
AreKidsOf d n ks = Contains (objects d) n × ((k : ℕ) → Contains ks k → Contains (kids d n) k)
