-- The fabric's table is well formed, by the very definition that the run tests, with the counts of the fabric; a plan's program is exact for it; and
-- the run of that table with that program on a row of bits gives what the plan gives: the fabric's promise for bits. A gate's bit is the same
-- whether it is picked from the table's number or from its four bits.
use mathlib.Core.Path.{◌≡◌, refl, sym, ap, ap₂, ◌∙◌}
use mathlib.Core.List.{List, [], ◌∷◌, ◌++◌, append-nil}
use Prim.Native.Nat.{ℕ, zero, suc, ◌+◌, ◌*◌, ◌≤◌}
use native.Mathlib.Omega.{arith}
use lib.ListN.{length, get_or}
use borrow.Author.Tests.{le-leb}
use Rattle.lists.specs.Lists.{list_of, Below}
use Rattle.lists.proofs.ListsLaws.{get_or-list_of, list_of_ext, below-append, below_more}
use Rattle.fault.specs.Checks.{room_fault}
use Rattle.elements.specs.Elements.{max_wires}
use Rattle.blocks.specs.Elements.{Row, gate_bits, flat, run, line_of, gate_on_bits, unpack}
use Rattle.blocks.proofs.ElementsLaws.{unpack-pack}
use Rattle.plan.specs.declared.record.Plan.{Plan}
use Rattle.plan.specs.Record.{gate_at}
use Rattle.plan.specs.Faults.{counts_fault, Accepted}
use Rattle.plan.proofs.FaultsLaws.{counts-within}
use Rattle.plan_evaluation_checks.specs.EvaluationChecks.{contact_fault}
use Rattle.plan_evaluation_checks.proofs.EvaluationChecksLaws.{row-length, row-bit}
use Rattle.plan_evaluation.specs.Evaluation.{value_on, plan_wires, named_by, plan_outputs, table_bit, gate_bit}
use Rattle.plan_evaluation.proofs.EvaluationLaws.{wire-bit}
use Rattle.fabric_universal.specs.Universal.{table_program}
use Rattle.fabric_universal.specs.Fabric.{fabric_rows, fabric_outs, fabric_count, fabric_wires, fabric_takes, fabric_table, plan_bits, plan_program, plan_table}
use Rattle.fabric_universal.proofs.PlanValues.{act_of}
use Rattle.fabric_universal.proofs.FabricLaws.{length-fabric_rows, fabric_totals, fabric_wires_lem, length-fabric_outs, fabric_below, fabric_made_before}
use Rattle.fabric_universal.proofs.FabricLaws.{length-plan_bits, plan_bits-bits, fabric_within}
use Rattle.fabric_universal.proofs.FabricRun.{fabric_start, fabric_computes}
use Rattle.fabric_sizes.specs.Layout.{inputs_in, outputs_in, rows_in, output_wire_at, table_rows, wires_in, bits_in}
use Rattle.fabric_table_checks.specs.TableFault.{table_fault}
use Rattle.fabric_table_checks.proofs.TableFaultLaws.{table-faultless}
use Rattle.fabric_table_checks.proofs.WrittenTables.{table_of, table_rows_of, output_of_lem, below_cons, flat-below, wires_in_of, bits_in_of, well_formed_of}
use Rattle.fabric_run_checks.specs.RunFault.{given_program_fault, given_fault, run_fault}
use Rattle.fabric_run_checks.proofs.RunFaultLaws.{pack_exact}
use Rattle.fabric_run.specs.Running.{run_wires, run_outputs}
use Rattle.fabric.specs.Promise.{FabricPromise}

-- ---- the table

module _ (u k v : ℕ) where
  -- the number of rows that it names is that of its rows
  pub table_of_lem : fabric_table u k v ≡ table_of u v (fabric_rows u k v) (fabric_outs u k v)
  unfolding fabric_table
  table_of_lem = ap (λ n. u ∷ v ∷ n ∷ (flat (fabric_rows u k v) ++ fabric_outs u k v)) (sym (length-fabric_rows u k v))

  -- what stands in the header, and the counts that follow from the rows
  pub fabric_inputs : inputs_in (fabric_table u k v) ≡ u
  unfolding fabric_table
  fabric_inputs = refl

  pub fabric_outputs : outputs_in (fabric_table u k v) ≡ v
  unfolding fabric_table
  fabric_outputs = refl

  pub fabric_rows_in : rows_in (fabric_table u k v) ≡ fabric_count u k v
  unfolding fabric_table
  fabric_rows_in = refl

  pub fabric_table_rows : table_rows (fabric_table u k v) ≡ fabric_rows u k v
  fabric_table_rows = rw table_of_lem (table_rows_of u v (fabric_rows u k v) (fabric_outs u k v) (fabric_totals u k v).family)

  pub fabric_wires_in : wires_in (fabric_table u k v) ≡ fabric_wires u k v
  fabric_wires_in = rw table_of_lem (wires_in_of u v (fabric_rows u k v) (fabric_outs u k v) (fabric_totals u k v).family) ∙ fabric_wires_lem u k v

  pub fabric_bits_in : bits_in (fabric_table u k v) ≡ fabric_takes u k v
  fabric_bits_in = rw table_of_lem (bits_in_of u v (fabric_rows u k v) (fabric_outs u k v) (fabric_totals u k v).family) ∙ (fabric_totals u k v).bits

  pub fabric_output_at : (j : ℕ) → output_wire_at (fabric_table u k v) j ≡ get_or (fabric_outs u k v) j 0
  fabric_output_at j = rw table_of_lem (output_of_lem u v (fabric_rows u k v) (fabric_outs u k v) (fabric_totals u k v).family j)

  -- it is well formed
  pub fabric_well_formed : counts_fault u k v ≡ 0 → table_fault (fabric_table u k v) ≡ 0
  fabric_well_formed e =
      let c = counts-within u k v e in
      let wires = fabric_wires_lem u k v in
      rw table_of_lem ((table-faultless (table_of u v (fabric_rows u k v) (fabric_outs u k v))).1
      (well_formed_of u v (fabric_rows u k v) (fabric_outs u k v) (fabric_totals u k v).family (c.some_inputs, c.inputs) (c.some_outputs, c.outputs)
      (fabric_made_before u k v) (length-fabric_outs u k v) (rw wires (fabric_below u k v)) (omega (arith, (fabric_within u k v c).wires))))

  -- its entries are of 16 bits
  pub fabric_entries : counts_fault u k v ≡ 0 → Below max_wires (fabric_table u k v)
  unfolding fabric_table
  fabric_entries e =
      let c = counts-within u k v e in
      let w = fabric_within u k v c in
      let wires = fabric_wires_lem u k v in
      below_cons (omega (arith, c.inputs)) (below_cons (omega (arith, c.outputs)) (below_cons (omega (arith, w.rows))
      (below-append (flat-below (omega arith) (fabric_made_before u k v) (omega (arith, w.wires)))
      (below_more max_wires (fabric_below u k v) (omega (arith, w.wires))))))

-- ---- the gates' action on bits

-- bit 2a + b of a table, from its number or from its bits
pub act_bits : (i t a b : ℕ) → a ≤ 1 → b ≤ 1 → act_of gate_on_bits i t a b ≡ gate_bit i t a b
unfolding gate_on_bits line_of table_program table_bit
act_bits i t a b ha hb = let e : 2 * (2 * 0 + a) + b ≡ 2 * a + b = omega arith in rw e (get_or-list_of gate_bits _ (2 * a + b) 0 (omega arith))

module _ (p : Plan) (row : List ℕ) (bits : (i : ℕ) → get_or row i 0 ≤ 1) where
  wires-bits : (n : ℕ) → plan_wires 0 (act_of gate_on_bits) p row n ≡ plan_wires 0 gate_bit p row n
  unfolding plan_wires
  wires-bits zero = refl
  wires-bits (suc n) =
      let ws = plan_wires 0 gate_bit p row n in
      let bit = wire-bit p row bits n in
      rw (wires-bits n) (ap (λ x. ws ++ (x ∷ []))
      (act_bits n (gate_at p n).table (value_on 0 ws (gate_at p n).first) (value_on 0 ws (gate_at p n).second) (bit _) (bit _)))

  pub outputs-bits : plan_outputs 0 (act_of gate_on_bits) p row ≡ plan_outputs 0 gate_bit p row
  outputs-bits = ap (λ (ws : List ℕ). named_by 0 p ws p.output_count) (wires-bits p.gate_count)

-- ---- a plan's program, and its run

module _ (p : Plan) where
  abbrev u : ℕ
  u = p.inputs

  abbrev k : ℕ
  k = p.gate_count

  abbrev v : ℕ
  v = p.output_count

  bits-given : bits_in (plan_table p) ≡ length (plan_bits p)
  bits-given = fabric_bits_in u k v ∙ sym (length-plan_bits p)

  -- the program is exact for it
  pub program_exact : given_program_fault (bits_in (plan_table p)) (plan_program p) ≡ 0
  unfolding plan_program
  program_exact = rw bits-given (pack_exact (plan_bits p) (plan_bits-bits p))

  pub unpack-program : unpack (bits_in (plan_table p)) (plan_program p) ≡ plan_bits p
  unfolding plan_program
  unpack-program = rw bits-given (unpack-pack (plan_bits p) (plan_bits-bits p))

  -- the wires are those of a run of the fabric's rows with the plan's bits
  pub fabric_run_wires : (row : List ℕ)
      → run_wires (plan_table p) (plan_program p) row ≡ (run 0 gate_on_bits (fabric_rows u k v) (fabric_start 0 row (plan_bits p ++ []))).wires
  unfolding run_wires
  fabric_run_wires row =
      ap₂ (λ (rows : List Row) (bs : List ℕ). (run 0 gate_on_bits rows (fabric_start 0 row bs)).wires) (fabric_table_rows u k v)
      (unpack-program ∙ sym (append-nil (plan_bits p)))

  -- for every accepted plan and every row of its inputs' bits, the run of the fabric of its counts with its program gives the plan's outputs
  pub fabric_runs : (row : List ℕ) → Accepted p → contact_fault p.inputs row ≡ 0
      → run_outputs (plan_table p) (plan_program p) row ≡ plan_outputs 0 gate_bit p row
  unfolding run_outputs
  fabric_runs row accepted contacts =
      let wires = run_wires (plan_table p) (plan_program p) row in
      ap (λ n. list_of n (λ j. get_or wires (output_wire_at (plan_table p) j) 0)) (fabric_outputs u k v)
      ∙ list_of_ext v _ _ (λ j l. rw (fabric_run_wires row, fabric_output_at u k v j))
      ∙ (fabric_computes 0 gate_on_bits p accepted 0 row [] (row-length u row contacts)).given
      ∙ outputs-bits p row (row-bit u row contacts)

-- ---- the promise

pub fabric_promise : (p : Plan) (row : List ℕ) → Accepted p → counts_fault p.inputs p.gate_count p.output_count ≡ 0
    → contact_fault p.inputs row ≡ 0 → FabricPromise p row
unfolding run_fault given_fault room_fault
fabric_promise p row accepted counts contacts =
    let u : ℕ = p.inputs in
    let k : ℕ = p.gate_count in
    let v : ℕ = p.output_count in
    record {
      runs = λ work result work_room resultRoom. rw (
        fabric_well_formed u k v counts,
        program_exact p,
        fabric_inputs u k v,
        contacts,
        fabric_wires_in u k v,
        fabric_outputs u k v,
        le-leb (fabric_wires u k v) work work_room,
        le-leb v result resultRoom,
      );
      gives = fabric_runs p row accepted contacts;
    }
