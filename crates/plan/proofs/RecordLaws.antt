-- Laws of places that begin with given values, the others zero, and of gates' own wires.
use Rattle.std.proofs.Common.{◌≡◌, ℕ, zero, suc, ◌-◌, ◌%◌, ◌<◌, ◌≤◌, List, [], ◌∷◌, ◌++◌, length, get_or, set, replicate, refl, append_assoc, mod-eq_of_lt, arith, length-append}
use lib.ListN.{length-replicate}
use lib.Seq.{set_at}
use Rattle.plan.specs.Record.{word_numbers, max_inputs, max_gates, places, gate_wire}

-- one place more is filled
pub places-more : {A : Type 0} (n : ℕ) (none : A) (xs : List A) (x : A) (i : ℕ) → length xs ≡ i → i < n
    → set (places n none xs) i x ≡ places n none (xs ++ (x ∷ []))
unfolding places
places-more n none xs x i e h =
    let more : n - length xs ≡ suc (n - length (xs ++ (x ∷ []))) = omega (arith, length-append xs (x ∷ [])) in
    rw (more, append_assoc xs (x ∷ [])) (set_at xs none _ x i e)

-- places that begin with no more values than they are
pub length-places : {A : Type 0} (n : ℕ) (none : A) (xs : List A) → length xs ≤ n → length (places n none xs) ≡ n
unfolding places
length-places n none xs l = simp (length-append, length-replicate) (omega arith)

-- values followed by `none`: at any place what is found in the values
padded : {A : Type 0} (none : A) (xs : List A) (m i : ℕ) → get_or (xs ++ replicate m none) i none ≡ get_or xs i none
padded none [] zero i = refl
padded none [] (suc m) zero = refl
padded none [] (suc m) (suc i) = padded none [] m i
padded none (x ∷ xs) m zero = refl
padded none (x ∷ xs) m (suc i) = padded none xs m i

-- what stands at a place, also past the values
pub get_or-places : {A : Type 0} (n : ℕ) (none : A) (xs : List A) (i : ℕ) → get_or (places n none xs) i none ≡ get_or xs i none
unfolding places
get_or-places n none xs i = padded none xs (n - length xs) i

-- within the limits a gate's own wire has 16 bits
pub wire-fits : {u i : ℕ} → u ≤ max_inputs → i ≤ max_gates → gate_wire u i % word_numbers ≡ gate_wire u i
wire-fits hu hi = mod-eq_of_lt (omega arith)
