-- Document 01's bench sheet: "Line one names the counts."
use Rattle.std.specs.Prelude.{ℕ, List, ◌++◌}
use Rattle.elements.specs.declared.Counts.{Counts}
use Rattle.console.specs.Text.{ascii, named}

-- u, k and v, and the rows, wires and program bits of their fabric
abbrev pub counts_line : ℕ → ℕ → ℕ → Counts → List ℕ
counts_line u k v c =
    named (ascii "u ") u ++ named (ascii " k ") k ++ named (ascii " v ") v ++ named (ascii " rows ") c.rows ++ named (ascii " wires ") c.wires
    ++ named (ascii " bits ") c.bits ++ ascii "\n"
