-- Fabric wires in a list of 16-bit entries.
use Rattle.std.specs.Prelude.{ℕ, ◌+◌, ◌*◌, ◌%◌, min, List, length}
use Rattle.lists.specs.Lists.{list_of}
use Rattle.fault.specs.Buffers.{over}
use Rattle.elements.specs.Elements.{max_wires}

-- a list with the wires first, first + step, .. in its first `count` places, as far as it has them
unfoldable pub wires_put : ℕ → ℕ → ℕ → List ℕ → List ℕ
wires_put count first step old = over (list_of (min count (length old)) (λ i. (first + step * i) % max_wires)) old
