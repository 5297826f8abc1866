-- A gate with the map byte of its standing fields: each map bit is the field's, so the gate's bytes are those of the fields that stand.
use Prim.Native.Nat.{ℕ, ◌+◌, ◌%◌, ◌<◌}
use native.Mathlib.Omega.{arith}
use mathlib.Core.Path.{◌≡◌, refl, sym, ap, ◌∙◌}
use mathlib.Core.Bool.{Bool, true, false}
use mathlib.Core.List.{List, [], ◌∷◌, ◌++◌}
use lib.ListN.{length, length-append}
use Rattle.std.specs.Int.{w16, to_le_bytes}
use Rattle.plan.specs.declared.record.Gate.{Gate}
use Rattle.plan.specs.Record.{word_numbers}
use Rattle.plan.specs.Rules.{map_allowed}
use Rattle.plan_fields.specs.Fields.{first_place, second_place, table_place, map_bit}
use Rattle.plan_files.specs.Encoding.{byte, word, where_standing, table_byte, encode_gate}
use Rattle.plan_saving.specs.declared.gate.Standing.{Standing}
use Rattle.plan_saving.specs.Saving.{map_byte_of}
use Rattle.plan_saving.specs.Parts.{Wrote}
use Rattle.plan_saving.proofs.WritingLaws.{wrote_as, wrote-more}

-- the bytes of a two-byte number
pub word_bytes : {n : ℕ} {l : List ℕ} → l ≡ to_le_bytes w16 n → n < word_numbers → l ≡ word n
word_bytes {n} e h = e ∙ ap (λ high. n % 256 ∷ high ∷ []) (omega arith)

-- a map byte whose bits are the standing fields'
pub record MapBits (s : Standing) (m : ℕ) : Type 0 where
  pub is_map : map_allowed m ≡ true
  pub first : map_bit m first_place ≡ s.first
  pub second : map_bit m second_place ≡ s.second
  pub table : map_bit m table_place ≡ s.table

pub map-bits : (s : Standing) → MapBits s (map_byte_of s)
unfolding map_byte_of map_allowed
map-bits s = go s.first s.second s.table
  where
    go : (a b c : Bool) → let t : Standing = record { first = a; second = b; table = c } in MapBits t (map_byte_of t)
    go true true true = record { is_map = refl; first = refl; second = refl; table = refl }
    go true true false = record { is_map = refl; first = refl; second = refl; table = refl }
    go true false true = record { is_map = refl; first = refl; second = refl; table = refl }
    go true false false = record { is_map = refl; first = refl; second = refl; table = refl }
    go false true true = record { is_map = refl; first = refl; second = refl; table = refl }
    go false true false = record { is_map = refl; first = refl; second = refl; table = refl }
    go false false true = record { is_map = refl; first = refl; second = refl; table = refl }
    go false false false = record { is_map = refl; first = refl; second = refl; table = refl }

module _ (s : Standing) (g : Gate) where
  -- the bytes of the fields that stand
  abbrev pub first_part : List ℕ
  first_part = where_standing s.first (word g.first.0)

  abbrev pub second_part : List ℕ
  second_part = where_standing s.second (word g.second.0)

  abbrev pub table_part : List ℕ
  table_part = where_standing s.table (byte (table_byte s.second g.table))

  -- the gate's bytes are the map byte and these
  pub gate-standing : encode_gate (map_byte_of s) g ≡ byte (map_byte_of s) ++ (first_part ++ (second_part ++ table_part))
  gate-standing = let bits = map-bits s in rw (bits.first, bits.second, bits.table)

  -- how many they are
  pub gate-parts : length (encode_gate (map_byte_of s) g) ≡ 1 + length first_part + length second_part + length table_part
  gate-parts = ap length gate-standing ∙ simp length-append (omega arith)

  -- the map byte, then the fields one after another
  pub gate-wrote : {L M P Q R : List ℕ} {at k n l e m t : ℕ} → m ≡ map_byte_of s → t ≡ table_byte s.second g.table → Wrote (byte m) L at M k
      → Wrote first_part M k P n → Wrote second_part P n Q l → Wrote (where_standing s.table (byte t)) Q l R e → Wrote (encode_gate (map_byte_of s) g) L at R e
  gate-wrote is line map first second table =
      wrote_as
      (wrote-more (wrote_as map (ap byte is)) (wrote-more first (wrote-more second (wrote_as table (ap (λ b. where_standing s.table (byte b)) line)))))
      (sym gate-standing)
