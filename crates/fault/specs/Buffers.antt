-- "A refusal gives its number and changes no buffer. A record that would have been made is then all zero, and one that was handed over comes back as
-- it went in. On success entries past the stated length are unchanged." Records are said by each call's own answer.
use Rattle.std.specs.Prelude.{ℕ, zero, suc, ◌-◌, List, ◌++◌, length, drop}
use borrow.Rule.Slice.PartMut.{mid_of, put_mid}

-- a buffer that begins with what a call writes, followed by what stood past that
abbrev pub over : {A : Type 0} → List A → List A → List A
over new old = new ++ drop (length new) old

-- a lent buffer after a call whose checks gave the number: as it was on a refusal
abbrev pub filled : {A : Type 0} → ℕ → List A → List A → List A
filled zero new old = over new old
filled (suc n) new old = old

-- what the part of a buffer from p on holds
abbrev pub part_of : {A : Type 0} → ℕ → List A → List A
part_of p L = mid_of p (length L - p) L

-- the buffer once the part F from p on came back
abbrev pub with_part : {A : Type 0} → ℕ → List A → List A → List A
with_part p L F = put_mid p (length L - p) L F
