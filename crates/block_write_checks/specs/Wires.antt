-- Document 01, "Block library", writing: checks 13 and 11, which P and S share.
use Rattle.std.specs.Prelude.{ℕ, ◌+◌, ◌*◌, Bool, ◌||◌, List, leb, ltb, eqb, length, get_or}
use Rattle.fault.specs.declared.Fault.{Fault}
use Rattle.fault.specs.Checks.{unless, and_then, first_of, room_fault}
use Rattle.elements.specs.Elements.{max_wires}
use Rattle.block_elements.specs.Rows.{stride}

-- 13: an input wire is unmade
unfoldable pub unmade_fault : List ℕ → ℕ → ℕ
unmade_fault ins next = first_of (λ i. unless (ltb (get_or ins i 0) next) Fault.Fabric) (length ins)

-- `made` wires are made from `next` on, and none passes 65,535. Where none is made, `next` may be anything
unfoldable pub wires_fit : ℕ → ℕ → Bool
wires_fit made next = eqb made 0 || leb (next + made) max_wires

-- 13: an input wire is unmade, or a new one would pass 65,535
unfoldable pub wires_fault : List ℕ → ℕ → ℕ → ℕ
wires_fault ins made next = and_then (unmade_fault ins next) (unless (wires_fit made next) Fault.Fabric)

-- 11: `count` rows or `outs` output wires do not fit lent buffers of `rows` and `outputs` entries
unfoldable pub buffers_fault : ℕ → ℕ → ℕ → ℕ → ℕ
buffers_fault count outs rows outputs = and_then (room_fault (stride * count) rows) (room_fault outs outputs)
