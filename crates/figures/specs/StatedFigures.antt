-- The starred figures of document 01's bench sheet, and the lines of document 02, W3, each entry by the definition that a public call's contract
-- cites.
use Rattle.std.specs.Prelude.{ℕ, List, [], ◌∷◌, ◌++◌, length, replicate}
use Rattle.lists.specs.Lists.{list_of}
use Rattle.fault.specs.Checks.{first_of, room_fault, list_fault}
use Rattle.elements.specs.declared.KindCounts.{KindCounts}
use Rattle.powers.specs.Powers.{first_fit, ceil_log, ceil_power}
use Rattle.block_elements.specs.Bits.{set_bit, store_bits, pack}
use Rattle.block_elements.specs.Rows.{entries}
use Rattle.block_networks.specs.Permutation.{permutation_count}
use Rattle.block_networks.specs.Wanted.{wanted_bits}
use Rattle.block_networks.specs.Selection.{selection_level, whole_count, whole_wires, selection_count, selection_wires, selection_bits}
use Rattle.block_sizes.specs.Sizes.{size_allowed, level_of, selection_size_allowed, selection_sizes_fault}
use Rattle.block_program_checks.specs.Bits.{bits_fault}
use Rattle.block_program_checks.specs.Checks.{selected_fault, not_among, twice_fault, source_fault, wanted_fault, program_fault, selection_wanted_fault, selection_program_fault}
use Rattle.block_permutation_bits.specs.ProgramCalls.{program_result}
use Rattle.block_selection_bits.specs.ProgramCalls.{selection_program_result}
use Rattle.plan.specs.declared.record.Gate.{Gate}
use Rattle.plan.specs.declared.record.PlanWire.{PlanWire}
use Rattle.plan.specs.declared.record.Plan.{Plan}
use Rattle.plan.specs.Record.{places, zero_plan}
use Rattle.plan.specs.Rules.{count_allowed, map_allowed, operand_allowed, table_allowed, source_allowed}
use Rattle.plan.specs.Faults.{counts_fault, gate_fault, output_fault, plan_fault}
use Rattle.plan_fields.specs.Parsing.{field, in_order}
use Rattle.plan_fields.specs.Fields.{gate_step_within}
use Rattle.plan_reading.specs.PlanFile.{not_stub, at_end, whole_file, ReadOutcome, plan_read}
use Rattle.fabric_universal.specs.Universal.{universal_count, universal_wires, universal_takes}
use Rattle.fabric_universal.specs.Fabric.{fabric_count, fabric_wires, fabric_takes}
use Rattle.fabric_sizes.specs.Counting.{counting}
use Rattle.fabric_sizes.specs.FabricChecks.{fabric_fault, plan_program_fault}
use Rattle.fabric_sheet.specs.Sheet.{kind_counting}
use Rattle.fabric_bits.specs.ProgramCalls.{plan_program_result}
use Rattle.fabric_rows.specs.FabricCalls.{fabric_result}
use Rattle.figures.specs.Figure.{Figure}

-- a record as a row of numbers: the counts, every gate's place, every output's place, the figures
gate_numbers : List Gate → List ℕ
gate_numbers [] = []
gate_numbers (g ∷ gs) = g.first.0 ∷ g.second.0 ∷ g.table ∷ gate_numbers gs

wire_numbers : List PlanWire → List ℕ
wire_numbers [] = []
wire_numbers (w ∷ ws) = w.0 ∷ wire_numbers ws

unfoldable pub plan_numbers : Plan → List ℕ
unfolding gate_numbers wire_numbers
plan_numbers p = p.inputs ∷ p.gate_count ∷ p.output_count ∷ (gate_numbers p.gates ++ wire_numbers p.outputs ++ p.gate_places ∷ p.uses)

-- what reading says, as a row of numbers: number, offset, plan
unfoldable pub outcome_numbers : ReadOutcome → List ℕ
unfolding plan_numbers
outcome_numbers o = o.number ∷ o.at ∷ plan_numbers o.plan

-- reading the file refuses with this number at this offset, and the record is all zero
unfoldable pub refuses : List ℕ → ℕ → ℕ → Figure
unfolding outcome_numbers plan_read whole_file not_stub at_end gate_step_within field in_order places count_allowed map_allowed operand_allowed source_allowed
refuses file number at = record {
  computed = outcome_numbers (plan_read file);
  stated = outcome_numbers (record { number = number; at = at; plan = zero_plan });
}

-- the bits of P(N) for the wanted inputs are these, and programming it succeeds and makes a byte of ones their program
unfoldable pub programs : ℕ → List ℕ → List ℕ → Figure
unfolding first_of list_of first_fit ceil_log ceil_power size_allowed selected_fault not_among twice_fault source_fault wanted_fault list_fault bits_fault set_bit store_bits pack
programs N wanted bits = record {
  computed = program_fault N wanted 1 ∷ (wanted_bits (level_of N) wanted ++ program_result N wanted (255 ∷ []));
  stated = 0 ∷ (bits ++ pack bits);
}

-- S(m, n) likewise
unfoldable pub selects : ℕ → ℕ → List ℕ → List ℕ → Figure
unfolding first_of list_of first_fit ceil_log selection_size_allowed selection_sizes_fault selected_fault selection_wanted_fault list_fault bits_fault set_bit store_bits pack
selects m n wanted bits = record {
  computed = selection_program_fault m n wanted 1 ∷ (selection_bits m n wanted ++ selection_program_result m n wanted (255 ∷ []));
  stated = 0 ∷ (bits ++ pack bits);
}

-- the fabric of three counts has these numbers of rows, wires and program bits
unfoldable pub counts : ℕ → ℕ → ℕ → ℕ → ℕ → ℕ → Figure
unfolding count_allowed counts_fault fabric_count fabric_wires fabric_takes universal_count universal_wires universal_takes selection_level whole_count
    whole_wires selection_count selection_wires permutation_count
counts u k v rows wires bits = record {
  computed = let c = counting u k v in c.number ∷ c.rows ∷ c.wires ∷ c.bits ∷ [];
  stated = 0 ∷ rows ∷ wires ∷ bits ∷ [];
}

-- the sheet of that fabric has these lines: the X, Y and G rows of S(u, 2K), of U(K), of S(K, v) and of the whole, each with their total
line_numbers : KindCounts → List ℕ
line_numbers c = c.x ∷ c.y ∷ c.g ∷ c.total ∷ []

unfoldable pub sheets : ℕ → ℕ → ℕ → List ℕ → List ℕ → List ℕ → List ℕ → Figure
unfolding line_numbers count_allowed counts_fault
sheets u k v input block output sum = record {
  computed =
      let o = kind_counting u k v in
      o.number ∷ (line_numbers o.sheet.input ++ line_numbers o.sheet.block ++ line_numbers o.sheet.output ++ line_numbers o.sheet.sum);
  stated = 0 ∷ (input ++ block ++ output ++ sum);
}

-- writing the fabric of three counts succeeds in a table of zeros that is as long as these entries, and makes it these
unfoldable pub fabricates : ℕ → ℕ → ℕ → List ℕ → Figure
unfolding fabric_fault room_fault
fabricates u k v entries = record {
  computed = fabric_fault u k v (length entries) ∷ fabric_result u k v (replicate (length entries) 0);
  stated = 0 ∷ entries;
}

-- programming the plan of a file succeeds in bytes of ones, and makes them these bytes
unfoldable pub planned : List ℕ → List ℕ → Figure
unfolding plan_read whole_file not_stub at_end gate_step_within field in_order places map_allowed operand_allowed table_allowed source_allowed plan_fault gate_fault
    output_fault plan_program_fault
planned file bytes = record {
  computed = let p = (plan_read file).plan in plan_program_fault p (length bytes) ∷ plan_program_result p (replicate (length bytes) 255);
  stated = 0 ∷ bytes;
}

-- a header that passes leaves a file of six bytes cut before its first map byte, and a map byte 7 one of seven bytes cut before its
-- first operand
unfoldable pub stated_figures : List Figure
stated_figures =
    -- u 0: refusal 2 at 0; u 64 passes, 65 is 2
    refuses (0 ∷ 0 ∷ 1 ∷ 0 ∷ 1 ∷ 0 ∷ []) 2 0
    ∷ refuses (64 ∷ 0 ∷ 1 ∷ 0 ∷ 1 ∷ 0 ∷ []) 5 6
    ∷ refuses (65 ∷ 0 ∷ 1 ∷ 0 ∷ 1 ∷ 0 ∷ []) 2 0
    -- k 256 passes, 257 is 3 at 2
    ∷ refuses (1 ∷ 0 ∷ 0 ∷ 1 ∷ 1 ∷ 0 ∷ []) 5 6
    ∷ refuses (1 ∷ 0 ∷ 1 ∷ 1 ∷ 1 ∷ 0 ∷ []) 3 2
    -- v 64 passes, 65 is 4 at 4
    ∷ refuses (1 ∷ 0 ∷ 1 ∷ 0 ∷ 64 ∷ 0 ∷ []) 5 6
    ∷ refuses (1 ∷ 0 ∷ 1 ∷ 0 ∷ 65 ∷ 0 ∷ []) 4 4
    -- 5 bytes: 1
    ∷ refuses (1 ∷ 0 ∷ 1 ∷ 0 ∷ 1 ∷ []) 1 0
    -- map 7 passes, 8 is 6
    ∷ refuses (1 ∷ 0 ∷ 1 ∷ 0 ∷ 1 ∷ 0 ∷ 7 ∷ []) 5 7
    ∷ refuses (1 ∷ 0 ∷ 1 ∷ 0 ∷ 1 ∷ 0 ∷ 8 ∷ []) 6 6
    -- P(2) crossed: 1
    ∷ programs 2 (2 ∷ 1 ∷ []) (1 ∷ [])
    -- P(4), outputs from inputs 2,1,4,3: 1 1 0 0 0; from 3,1,2,4: 1 0 1 0 0
    ∷ programs 4 (2 ∷ 1 ∷ 4 ∷ 3 ∷ []) (1 ∷ 1 ∷ 0 ∷ 0 ∷ 0 ∷ [])
    ∷ programs 4 (3 ∷ 1 ∷ 2 ∷ 4 ∷ []) (1 ∷ 0 ∷ 1 ∷ 0 ∷ 0 ∷ [])
    -- S(2,2) wanting 2,2: 1 0 0; wanting 2,1: 0 1 1
    ∷ selects 2 2 (2 ∷ 2 ∷ []) (1 ∷ 0 ∷ 0 ∷ [])
    ∷ selects 2 2 (2 ∷ 1 ∷ []) (0 ∷ 1 ∷ 1 ∷ [])
    -- counts (u, k, v) → rows, wires, bits
    ∷ counts 1 1 1 4 8 7
    ∷ counts 2 2 1 23 40 29
    ∷ counts 3 3 2 85 147 97
    -- the five-line case: input 10 3 0 13, block 2 3 2 7, output 2 1 0 3, sum 14 7 2 23
    ∷ sheets 2 2 1 (10 ∷ 3 ∷ 0 ∷ 13 ∷ []) (2 ∷ 3 ∷ 2 ∷ 7 ∷ []) (2 ∷ 1 ∷ 0 ∷ 3 ∷ []) (14 ∷ 7 ∷ 2 ∷ 23 ∷ [])
    -- fabric (1,1,1): 1 1 4, 1 1 0, 2 2 3, 1 2 4, 3 5 6, 7
    ∷ fabricates 1 1 1 (1 ∷ 1 ∷ 4 ∷ 1 ∷ 1 ∷ 0 ∷ 2 ∷ 2 ∷ 3 ∷ 1 ∷ 2 ∷ 4 ∷ 3 ∷ 5 ∷ 6 ∷ 7 ∷ [])
    -- plan hex 01 00 01 00 01 00 04 01 02 00 (NOT): program hex 08
    ∷ planned (1 ∷ 0 ∷ 1 ∷ 0 ∷ 1 ∷ 0 ∷ 4 ∷ 1 ∷ 2 ∷ 0 ∷ []) (8 ∷ [])
    ∷ []
