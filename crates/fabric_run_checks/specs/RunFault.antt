-- Document 01, the checks of the run of a table with a program on a row of input contacts, in their order.
use Rattle.std.specs.Prelude.{ℕ, ◌+◌, ◌-◌, ◌*◌, List, eqb, length}
use Rattle.fault.specs.Checks.{and_then, room_fault, unless, first_of}
use Rattle.fault.specs.declared.Fault.{Fault}
use Rattle.blocks.specs.Elements.{bytes_for, bit_at}
use Rattle.plan_evaluation_checks.specs.EvaluationChecks.{contact_fault}
use Rattle.plan_series_checks.specs.SeriesChecks.{series_fault}
use Rattle.fabric_sizes.specs.Layout.{inputs_in, outputs_in, wires_in, bits_in}
use Rattle.fabric_table_checks.specs.TableFault.{table_fault}

-- 11: a work buffer of `work` entries is shorter than the number of wires, or a result of `result` entries than that of outputs
abbrev pub rooms_fault : ℕ → ℕ → ℕ → ℕ → ℕ
rooms_fault wires outputs work result = and_then (room_fault wires work) (room_fault outputs result)

-- the bits of the last byte that hold none of n bits
abbrev pub spare_bits : ℕ → ℕ
spare_bits n = 8 * bytes_for n - n

-- 14: another length than that of n bits; a spare bit set
unfoldable pub given_program_fault : ℕ → List ℕ → ℕ
given_program_fault n program =
    and_then (unless (eqb (length program) (bytes_for n)) Fault.Program)
    (first_of (λ i. unless (eqb (bit_at program (n + i)) 0) Fault.Program) (spare_bits n))

-- 13, 14: a malformed table; a program that is not exact for it
unfoldable pub given_fault : List ℕ → List ℕ → ℕ
given_fault table program = and_then (table_fault table) (given_program_fault (bits_in table) program)

-- 13, 14, 12, 11: the work buffer has one byte per wire, the result one per output
unfoldable pub run_fault : List ℕ → List ℕ → List ℕ → ℕ → ℕ → ℕ
run_fault table program row work result =
    and_then (given_fault table program)
    (and_then (contact_fault (inputs_in table) row) (rooms_fault (wires_in table) (outputs_in table) work result))

-- document 02, W6, the fabric's series of n intervals with hold count h: 13, 14, 16, 12, 11
unfoldable pub run_series_fault : List ℕ → List ℕ → ℕ → ℕ → List ℕ → List ℕ → ℕ → ℕ → ℕ → ℕ
run_series_fault table program h n fresh start work results end =
    and_then (given_fault table program)
    (and_then (series_fault (inputs_in table) (outputs_in table) h n fresh start results end) (room_fault (wires_in table) work))
