-- What a loop over children gathers.
use Rattle.std.proofs.Common.{◌≡◌, ℕ, zero, suc, ◌+◌, ◌≤◌, List, [], ◌∷◌, ◌++◌, length, take, drop, Bool, true, false, cond, Some, Contains, refl, sym, ap, ◌∙◌, arith}
use Rattle.std.specs.List.{flat_map}
use Rattle.std.proofs.lemmas.Bool.{false≢true}
use Rattle.ax_base.specs.Document.{Document, children, spot, IsChild}
use Rattle.ax_base.specs.Kids.{kids, taken}
use Rattle.ax_base.specs.Context.{is_out}
use Rattle.ax_base.specs.Roles.{ignored}
use Rattle.ax_base.specs.Trees.{IsTree}
use Rattle.ax_base.proofs.KidsLaws.{kids-children}
use Rattle.kids_pass.specs.declared.children.NodeKids.{NodeKids}
use Rattle.kids_pass.specs.Kids.{kept_kids, given_by, given, given_at, IsKidsKept}
use Rattle.ax_roles.specs.declared.inclusion.Inclusion.{Inclusion}
use Rattle.ax_roles.specs.declared.inclusion.Inclusion.TheVariants.{Included, Ignored, Excluded}
use Rattle.ax_roles.specs.Inclusion.{inclusion_by, is_object_by, inclusion}

-- the first, and some of those behind them
pub take_plus : (cs : List ℕ) (i n k : ℕ) → k ≡ i + n → i ≤ length cs → take k cs ≡ take i cs ++ take n (drop i cs)
take_plus cs zero n k is low = let same : k ≡ n = omega arith in ap (λ j. take j cs) same
take_plus [] (suc i) n k is low = absurd (omega arith)
take_plus (c ∷ cs) (suc i) n zero is low = absurd (omega arith)
take_plus (c ∷ cs) (suc i) n (suc k) is low = ap (λ l. c ∷ l) (take_plus cs i n k (omega arith) (omega arith))

flat_map_same : (f g : ℕ → List ℕ) (cs : List ℕ) → ((c : ℕ) → Contains cs c → f c ≡ g c) → flat_map f cs ≡ flat_map g cs
flat_map_same f g [] same = refl
flat_map_same f g (c ∷ cs) same = ap (λ l. l ++ flat_map f cs) (same c (0, omega arith, refl)) ∙ ap (λ l. g c ++ l) (flat_map_same f g cs (λ x inside. same x (later x inside)))
  where
    later : (x : ℕ) → Contains cs x → Contains (c ∷ cs) x
    later x (k, low, is) = (suc k, omega arith, is)

-- what a node gives by how it takes part, and by whether it is out and ignored
given_tells : (out ignored : Bool) (kids : List ℕ) (n : ℕ) → given_by (inclusion_by out ignored) kids n ≡ cond out [] (cond ignored kids (n ∷ []))
given_tells true ignored kids n = refl
given_tells false true kids n = refl
given_tells false false kids n = refl

-- what all children give are the kids, where what is kept of each is right
pub all_gathered : (d : Document) → IsTree d → (n : ℕ) (cs list : List ℕ) (kept : List (ℕ × NodeKids)) → cs ≡ children d n → ((c : ℕ) → IsChild d n c → IsKidsKept d kept c) → list ≡ flat_map (given_at kept) cs → list ≡ kids d n
all_gathered d t n cs list kept same right gives =
    gives ∙ ap (flat_map (given_at kept)) same ∙ flat_map_same (given_at kept) (taken d) (children d n) (λ c child. ap (λ o. given o c) (right c child) ∙ given_tells (is_out d c) (ignored (spot d c)) (kids d c) c) ∙ sym (kids-children d t n)

-- what is kept of a node
abbrev pub made : Inclusion → List ℕ → NodeKids
made part list = record { inclusion = part; kids = list }

pub made_right : (d : Document) (n : ℕ) (part : Inclusion) (list : List ℕ) → part ≡ inclusion d n → list ≡ kids d n → made part list ≡ kept_kids d n
made_right d n part list takes same = λ i. record { inclusion = takes i; kids = same i }

-- an object gives itself
pub gives_itself : (n : ℕ) (k : NodeKids) → is_object_by k.inclusion ≡ true → given (Some k) n ≡ n ∷ []
gives_itself n k on = by k.inclusion on
  where
    by : (part : Inclusion) → is_object_by part ≡ true → given_by part k.kids n ≡ n ∷ []
    by Included on = refl
    by Ignored on = absurd (false≢true on)
    by Excluded on = absurd (false≢true on)
