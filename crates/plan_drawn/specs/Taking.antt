-- What the code holds while it takes gates: the numbers of the drawn wires in the plan, and the drawn gates in the order in which they were taken. Gates
-- count from 0.
use Rattle.std.specs.Prelude.{ℕ, suc, ◌+◌, ◌-◌, ◌<◌, ◌≤◌, ◌≡◌, Bool, true, false, cond, not, ◌&&◌, Option, Some, None, List, [], eqb, leb, length, get_or}
use Rattle.lists.specs.Lists.{list_of}
use Rattle.plan.specs.declared.record.Plan.{Plan}
use Rattle.plan.specs.Record.{max_inputs, max_gates, gate_wire, places}
use Rattle.plan_order.specs.Order.{has}
use Rattle.plan_order.specs.Drawing.{place_in, drawn_first, drawn_second, drawn_order}

-- a wire's number in the plan once these gates are taken: an input's own, a gate's by its place among them, 0 for any other gate's
unfoldable pub number_among : ℕ → List ℕ → ℕ → ℕ
number_among u gates w = cond (leb w u) w (cond (has gates (w - suc u)) (gate_wire u (place_in gates (w - suc u))) 0)

-- the list has a place for every wire of a drawing within the limits
pub record WiresHeld (u k : ℕ) (numbers : List ℕ) : Type 0 where
  pub inputs : u ≤ max_inputs
  pub gates : k ≤ max_gates
  pub wires : u + k < length numbers

-- the list has every wire's number once these gates are taken
pub record Numbered (u k : ℕ) (gates numbers : List ℕ) : Type 0 where
  pub held : WiresHeld u k numbers
  pub each : (w : ℕ) → w ≤ u + k → get_or numbers w 0 ≡ number_among u gates w

-- the wire has no number
unfoldable pub unnumbered : List ℕ → ℕ → Bool
unnumbered numbers w = eqb (get_or numbers w 0) 0

-- a gate with these operands and this own wire can be taken next
unfoldable pub can_take : List ℕ → ℕ → ℕ → ℕ → Bool
can_take numbers first second own = not (unnumbered numbers first) && (not (unnumbered numbers second) && unnumbered numbers own)

-- none of the numbers from `from` on and below n passes the test
pub record NoneFrom (test : ℕ → Bool) (from n : ℕ) : Type 0 where
  pub each : (i : ℕ) → from ≤ i → i < n → test i ≡ false

-- r is the lowest number from `from` on that passes the test, and it is below n
pub record LowestFrom (test : ℕ → Bool) (from n r : ℕ) : Type 0 where
  pub low : r < n
  pub none : NoneFrom test from r
  pub passes : test r ≡ true

-- the lowest number from `from` on, below n, that passes the test, if one does
abbrev pub LowestFound : (ℕ → Bool) → ℕ → ℕ → Option ℕ → Type 0
LowestFound test from n None = NoneFrom test from n
LowestFound test from n (Some r) = LowestFrom test from n r

-- the drawn numbers of gates, counted from 1, each at its place
abbrev pub numbers_of : List ℕ → List ℕ
numbers_of gates = places max_gates 0 (list_of (length gates) (λ p. suc (get_or gates p 0)))

module _ (d : Plan) where
  -- gate g can be taken next
  abbrev pub can_take_gate : List ℕ → ℕ → Bool
  can_take_gate numbers g = can_take numbers (drawn_first d g) (drawn_second d g) (gate_wire d.inputs g)

  -- gate g is left over where no more can be taken
  abbrev pub gate_left : ℕ → Bool
  gate_left g = not (has (drawn_order d) g)

  -- no gate is taken yet: the numbers of the wires, and the drawn numbers
  pub record Started (numbers drawn : List ℕ) : Type 0 where
    pub numbered : Numbered d.inputs d.gate_count [] numbers
    pub listed : drawn ≡ numbers_of []

  -- the gates are taken: the lowest that is left over, the numbers of the wires, and the drawn numbers
  pub record OrderTaken (low : Option ℕ) (numbers drawn : List ℕ) : Type 0 where
    pub left : LowestFound gate_left 0 d.gate_count low
    pub numbered : Numbered d.inputs d.gate_count (drawn_order d) numbers
    pub listed : drawn ≡ numbers_of (drawn_order d)
