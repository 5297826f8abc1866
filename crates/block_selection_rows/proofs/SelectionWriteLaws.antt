-- What writing S writes has its stated length, and is S where its checks pass.
use mathlib.Core.Path.{◌≡◌, sym, ap, ◌∙◌}
use mathlib.Core.List.{List}
use Prim.Native.Nat.{ℕ, ◌+◌, ◌-◌, ◌*◌, ◌^◌, ◌≤◌, ◌<◌}
use native.Mathlib.Decide.{dec_lt}
use native.Mathlib.Omega.{arith}
use lib.ListN.{length, get_or, take, drop, replicate, length-replicate, get_or-replicate, get_or-append, get_or-eq_default}
use lib.Seq.{ext_get_or, take_at, take_all, get_or-drop, get_or-append-add}
use Rattle.std.proofs.lemmas.List.{take-replicate}
use Rattle.lists.proofs.ListsLaws.{get_or-list_of, list_of_ext}
use Rattle.fault.specs.Buffers.{over}
use Rattle.fault.proofs.PartsLaws.{length_over}
use Rattle.powers.proofs.PowersLaws.{ceil_log-power}
use Rattle.block_elements.specs.Rows.{stride, flat, decode}
use Rattle.block_elements.proofs.RowsLaws.{length-flat, decode-flat}
use Rattle.block_networks.specs.Selection.{selection_level, padded, whole_rows, whole_outs, selection_rows, selection_outs, selection_count, selection_wires}
use Rattle.block_networks.proofs.SelectionLaws.{selection-inputs-fit, length-padded, get_or-padded, below-padded}
use Rattle.block_networks.proofs.SelectionLaws.{length-selection_rows, selection-totals, length-selection_outs}
use Rattle.block_sizes.specs.Sizes.{level_of}
use Rattle.block_sizes.proofs.SizesLaws.{size_is, power-allowed, selection-level-small}
use Rattle.block_write_checks.specs.WriteChecks.{SelectionWritePasses, selection_write_fault}
use Rattle.block_write_checks.proofs.WriteChecksLaws.{some-wire}
use Rattle.block_selection_rows.specs.WriteCalls.{selection_written_rows, selection_written_outputs}
use Rattle.block_selection_rows.specs.Block.{BlockRoom}

-- ---- what is written

-- three entries a row, and one for each output wire
length-entries : (m n : ℕ) (ins : List ℕ) (next : ℕ) → length (flat (selection_rows m n ins next)) ≡ stride * selection_count m n
length-entries m n ins next = length-flat (selection-totals m n ins next).family ∙ ap (λ k. stride * k) (length-selection_rows m n ins next)

-- after success the lent buffers begin with the rows and the output wires
pub record SelectionWritten (m n : ℕ) (ins : List ℕ) (next : ℕ) (rows outputs : List ℕ) : Type 0 where
  pub rows_read : decode (take (stride * selection_count m n) (selection_written_rows m n ins next rows outputs)) ≡ selection_rows m n ins next
  pub outputs_read : take n (selection_written_outputs m n ins next rows outputs) ≡ selection_outs m n ins next

module _ (m n : ℕ) (ins : List ℕ) (next : ℕ) (rows outputs : List ℕ) where
  pub selection-written-read : selection_write_fault m n ins next (length rows) (length outputs) ≡ 0 → SelectionWritten m n ins next rows outputs
  selection-written-read e =
      let es = flat (selection_rows m n ins next) in
      let outs = selection_outs m n ins next in
      let front : take (stride * selection_count m n) (selection_written_rows m n ins next rows outputs) ≡ es =
      rw e (take_at es (drop (length es) rows) (stride * selection_count m n) (length-entries m n ins next)) in
      record {
        rows_read = ap decode front ∙ decode-flat (selection-totals m n ins next).family;
        outputs_read = rw e (take_at outs (drop (length outs) outputs) n (length-selection_outs m n ins next));
      }

-- ---- the core of the call

-- the input wires are stored before zeros: an input past them is wire 0
copied-padded : (k : ℕ) (ins : List ℕ) → length ins ≤ k → over ins (replicate k 0) ≡ padded k ins
copied-padded k ins h = ext_get_or 0 _ _ (long ∙ sym (length-padded k ins)) (λ i l. let m : i < k = rw long at l in at i m ∙ sym (get_or-padded k ins i m))
  where
    zero-long : length {A = ℕ} (replicate k 0) ≡ k
    zero-long = length-replicate {A = ℕ} k 0

    long : length (over ins (replicate k 0)) ≡ k
    long = length_over ins (replicate k 0) (rw zero-long h) ∙ zero-long

    at : (i : ℕ) → i < k → get_or (over ins (replicate k 0)) i 0 ≡ get_or ins i 0
    at i m = elim (dec_lt i (length ins)) [
      | yes l ↦ get_or-append ins _ 0 i l
      | no l ↦
          let e : i ≡ length ins + (i - length ins) = omega arith in
          ap (λ j. get_or (over ins (replicate k 0)) j 0) e
          ∙ get_or-append-add ins (drop (length ins) (replicate k 0)) (i - length ins) 0
          ∙ get_or-drop (length ins) (replicate k 0) (i - length ins) 0
          ∙ ap (λ j. get_or (replicate k 0) j 0) (sym e)
          ∙ get_or-replicate k i 0 0 m
          ∙ sym (get_or-eq_default ins 0 {n = i} (omega arith))
    ]

-- the first places of a padded list
padded-again : (N k : ℕ) (ins : List ℕ) → N ≤ k → padded N (padded k ins) ≡ padded N ins
unfolding padded
padded-again N k ins h = list_of_ext N _ _ (λ i l. get_or-list_of k _ i 0 (omega arith))

-- the front of an array for the block's positions
pub length-front : (N size : ℕ) → size ≤ N → length {A = ℕ} (take size (replicate N 0)) ≡ size
length-front N size few = ap length (take-replicate {X = ℕ} size N 0 few) ∙ length-replicate {A = ℕ} size 0

-- the block has `size` positions, and the front of an array of N zeros for them; A holds the input wires there, before zeros
module _ (m n : ℕ) (ins : List ℕ) (next rows outputs N size : ℕ) (A : List ℕ) (passes : SelectionWritePasses m n ins next rows outputs)
    (power : size ≡ 2 ^ selection_level m n) (few : size ≤ N) (copied : A ≡ over (take (length {A = ℕ} (take size (replicate N 0))) ins) (take size (replicate N 0))) where
  abbrev level : ℕ
  level = selection_level m n

  level-is : level_of size ≡ selection_level m n
  level-is = ap level_of power ∙ ceil_log-power level

  pub wires_are : A ≡ padded size ins
  wires_are =
      let fits : length ins ≤ size = omega (arith, passes.inputs, selection-inputs-fit m n) in
      copied
      ∙ rw (take-replicate {X = ℕ} size N 0 few, length-replicate {A = ℕ} size 0) (ap (λ (l : List ℕ). over l (replicate size 0)) (take_all size ins fits) ∙ copied-padded size ins fits)

  pub long : length A ≡ size
  long = ap length wires_are ∙ length-padded size ins

  pub block_room : {to : ℕ} → to ≡ size → BlockRoom A next rows to
  unfolding selection_wires selection_count
  block_room places = record {
    made = rw long (record {
      size = rw power (size_is (2 ^ level) (power-allowed level (selection-level-small passes.sizes)));
      wires = rw level-is passes.wires;
    });
    some = some-wire passes;
    fed = rw wires_are (below-padded size (some-wire passes) passes.made);
    row_room = rw (long, level-is) passes.row_room;
    to_places = places ∙ sym long;
  }

  inputs_are_lem : padded (2 ^ selection_level m n) A ≡ padded (2 ^ selection_level m n) ins
  inputs_are_lem = ap (padded (2 ^ level)) wires_are ∙ padded-again (2 ^ level) size ins (omega arith)

  pub selection-rows-put : (R₀ R : List ℕ) → R ≡ over (flat (whole_rows (level_of (length A)) A next)) R₀ → R ≡ over (flat (selection_rows m n ins next)) R₀
  unfolding whole_rows selection_rows
  selection-rows-put R₀ R e = rw (long, level-is, inputs_are_lem) at e

  outs_are : whole_outs (level_of (length A)) A next ≡ whole_outs (selection_level m n) ins next
  unfolding whole_outs
  outs_are = rw (long, level-is, inputs_are_lem)

  -- the first n of the block's output wires are copied to the lent list
  pub selection-outputs-put : (T O₀ O : List ℕ) → length O₀ ≡ outputs → T ≡ whole_outs (level_of (length A)) A next → O ≡ over (take (length O₀) (take n T)) O₀
      → O ≡ over (selection_outs m n ins next) O₀
  unfolding selection_outs
  selection-outputs-put T O₀ O room e put =
      put
      ∙ ap (λ l. over (take (length O₀) (take n l)) O₀) (e ∙ outs_are)
      ∙ ap (λ l. over l O₀) (take_all (length O₀) (selection_outs m n ins next) (omega (arith, length-selection_outs m n ins next, passes.output_room)))
