-- What reads and writes come to, one after another.
use Rattle.std.proofs.Common.{◌≡◌, ℕ, ◌+◌, ◌-◌, ◌≤◌, List, ◌++◌, length, take, drop, None, Some, sym, ap, ◌∙◌, subst, arith, append_assoc, length-append, length-drop}
use Rattle.std.proofs.lemmas.List.{take-append-drop}
use Rattle.std.proofs.Math.Seq.{take-append-add}
use Rattle.std.proofs.lemmas.Grind.{common_steps}
use Rattle.std.specs.declared.option.Option.{Option}
use Rattle.std.specs.Io.KnownBytes.{Consumes, Appends}
use Rattle.std.specs.declared.result.Result.{Result}
use Rattle.std.specs.Prelude.{OnErr, Ok, Err}
use Rattle.ax_edge.specs.Transfers.{TakesFront}

-- what is taken in two reads
pub taken_then : (a b c : Option (List ℕ)) (bs cs : List ℕ) → Consumes a b bs → Consumes b c cs → Consumes a c (bs ++ cs)
taken_then None b c bs cs p q = tt
taken_then (Some x) None c bs cs p q = absurd p
taken_then (Some x) (Some y) None bs cs p q = absurd q
taken_then (Some x) (Some y) (Some z) bs cs p q = p ∙ ap (λ l. bs ++ l) q ∙ sym (append_assoc bs cs z)

-- what goes out in two writes
pub out_then : (a b c : Option (List ℕ)) (bs cs : List ℕ) → Appends a b bs → Appends b c cs → Appends a c (bs ++ cs)
out_then None b c bs cs p q = tt
out_then (Some x) None c bs cs p q = absurd p
out_then (Some x) (Some y) None bs cs p q = absurd q
out_then (Some x) (Some y) (Some z) bs cs p q = q ∙ ap (λ l. l ++ cs) p ∙ append_assoc x bs cs

-- the front of a list that is no longer than it
take_whole : (xs : List ℕ) (n : ℕ) → length xs ≤ n → take n xs ≡ xs
take_whole xs n h = grind (arith, common_steps)

-- a front that was taken, and what was taken after it
pub front_then : (most : ℕ) (a b c : Option (List ℕ)) (bs cs : List ℕ) → Consumes a b bs → Consumes b c cs → length bs + length cs ≤ most → TakesFront most a c
front_then most a b c bs cs p q h = (bs ++ cs, taken_then a b c bs cs p q, omega (arith, length-append bs cs, h))

-- what holds holds where there is an error
pub on_err_of : {T E P : Type 0} → (r : Result T E) → P → OnErr r P
on_err_of (Ok x) p = tt
on_err_of (Err e) p = p

-- the front of a text goes on
pub take_then : (text : List ℕ) (at n : ℕ) → at ≤ length text → take at text ++ take n (drop at text) ≡ take (at + n) text
take_then text at n h =
    let len : length (take at text) ≡ at = grind (arith, common_steps) in
    sym (ap (take (at + n)) (sym (take-append-drop at text)) ∙ ap (λ k. take (k + n) (take at text ++ drop at text)) (sym len) ∙ take-append-add (take at text) (drop at text) n)

-- the piece behind `at` is all that comes after it
rest_of : (text : List ℕ) (at : ℕ) → take (length text - at) (drop at text) ≡ drop at text
rest_of text at = take_whole (drop at text) (length text - at) (omega (arith, length-drop at text))

-- one more write of what is behind `at`
pub out_more : (a b c : Option (List ℕ)) (text : List ℕ) (at n : ℕ) → at ≤ length text → Appends a b (take at text)
    → Appends b c (take n (take (length text - at) (drop at text))) → Appends a c (take (at + n) text)
out_more a b c text at n h p q =
    let q' = subst (λ l. Appends b c (take n l)) (rest_of text at) q in
    subst (Appends a c) (take_then text at n h) (out_then a b c (take at text) (take n (drop at text)) p q')

-- one more write stays within the text
pub within_more : (text : List ℕ) (at n : ℕ) → at ≤ length text → n ≤ length (take (length text - at) (drop at text)) → at + n ≤ length text
within_more text at n h p = let p' = subst (λ l. n ≤ length l) (rest_of text at) p in omega (arith, length-drop at text)
