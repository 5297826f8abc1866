-- The plan's gates, loaded over spare ones.
use mathlib.Core.Path.{◌≡◌, sym, ap, ◌∙◌}
use mathlib.Core.List.{List}
use Prim.Native.Nat.{ℕ, ◌-◌, ◌+◌, ◌≤◌, ◌<◌}
use native.Mathlib.Decide.{dec_lt}
use native.Mathlib.Omega.{arith}
use lib.ListN.{length, get_or, replicate, length-append, length-drop, length-replicate, get_or-replicate, get_or-append}
use lib.Seq.{ext_get_or, get_or-drop, get_or-append-add}
use Rattle.lists.specs.Lists.{list_of}
use Rattle.lists.proofs.ListsLaws.{length-list_of, get_or-list_of, list_of_ext}
use Rattle.fault.specs.Buffers.{over}
use Rattle.plan.specs.declared.record.Gate.{Gate}
use Rattle.plan.specs.declared.record.Plan.{Plan}
use Rattle.plan.specs.Record.{max_gates, gate_at}
use Rattle.plan.specs.Faults.{Accepted}
use Rattle.plan.proofs.FaultsLaws.{accepted-counts}
use Rattle.fabric_universal.specs.Fabric.{spare_gate, padded_gate}
use Rattle.fabric_universal.proofs.PlanValues.{padded-own, padded_spare}
use Rattle.fabric_lists.specs.GateLists.{loaded_list}
use Rattle.fabric_lists.proofs.GateListsLaws.{all-listed}
use Rattle.fabric_sizes.proofs.PartsLaws.{few-places, plan-places, all-placed}

-- entries that are there already need not be written
already : {A : Type 0} (m n : ℕ) (f : ℕ → A) (x : A) → m ≤ n → ((i : ℕ) → m ≤ i → i < n → f i ≡ x)
    → over (list_of m f) (replicate n x) ≡ list_of n f
already {A} m n f x h rest = ext_get_or x (over (list_of m f) (replicate n x)) (list_of n f) (size ∙ sizes) (λ i l. at i (rw size at l) (dec_lt i m))
  where
    lm : length (list_of m f) ≡ m
    lm = length-list_of m f

    size : length (over (list_of m f) (replicate n x)) ≡ n
    size = simp (length-append, length-drop, length-replicate, length-list_of) (omega arith)

    sizes : n ≡ length (list_of n f)
    sizes = omega (arith, length-list_of n f)

    at : (i : ℕ) → i < n → Dec (i < m) → get_or (over (list_of m f) (replicate n x)) i x ≡ get_or (list_of n f) i x
    at i l (yes s) =
        get_or-append (list_of m f) _ x i (rw lm s) ∙ get_or-list_of m f i x s ∙ sym (get_or-list_of n f i x l)
    at i l (no s) =
        let e : i ≡ length (list_of m f) + (i - m) = omega (arith, lm) in
        ap (λ k. get_or (over (list_of m f) (replicate n x)) k x) e ∙ get_or-append-add (list_of m f) _ (i - m) x
        ∙ get_or-drop (length (list_of m f)) (replicate n x) (i - m) x ∙ ap (λ k. get_or (replicate n x) k x) (sym e)
        ∙ get_or-replicate n i x x l ∙ sym (rest i (omega arith) l) ∙ sym (get_or-list_of n f i x l)

module _ (p : Plan) (accepted : Accepted p) where
  -- K is at most the places of an array
  pub few-held : p.gate_places ≤ max_gates
  few-held = omega (arith, (plan-places p accepted).is_places, few-places p.gate_count (accepted-counts p accepted).gates)

  -- the plan's gates written over K spare ones
  pub loaded : {list : List Gate} → list ≡ loaded_list p (replicate p.gate_places spare_gate) → list ≡ list_of p.gate_places (padded_gate p)
  loaded e =
      let k = p.gate_count in
      let spare = replicate p.gate_places spare_gate in
      let few = (accepted-counts p accepted).gates in
      let room = all-placed p accepted in
      let all = all-listed k (length spare) few (omega (arith, length-replicate p.gate_places spare_gate)) in
      e ∙ ap (λ n. over (list_of n (gate_at p)) spare) all
      ∙ ap (λ l. over l spare) (list_of_ext k _ _ (λ i l. sym (padded-own p i l)))
      ∙ already k p.gate_places (padded_gate p) spare_gate room (λ i h l. padded_spare p i h)
