-- A turn more puts a bit below the others.
use Rattle.std.proofs.Common.{ℕ, suc, Bool, true, false, refl, ◌≡◌, ◌+◌, ◌<◌, ◌^◌, ◌-◌, ◌*◌, ap, ◌∙◌, arith}
use Rattle.std.proofs.Math.Pow.{pow_pos}
use Rattle.std.proofs.Math.Nat.{pow-suc}
use mir.Val.{bool_byte}
use Rattle.lists.specs.Counting.{one_if}
use Rattle.lists.proofs.CountingLaws.{one_lt}
use Rattle.block_bits.proofs.PackingLaws.{number_empty, number-all, number_more}
use Rattle.block_bits.proofs.given.byte_by.Goals as goal

-- the byte of a `bool`
byte-one_if : (b : Bool) → bool_byte b ≡ one_if b
byte-one_if true = refl
byte-one_if false = refl

pub loop-k-init : goal.loop-k-init
loop-k-init g c = record {
  small = pow_pos (c.args.n - c.args.n);
  made = λ test h. number_empty (λ j. one_if (test (c.args.n + j))) c.args.n;
}

pub loop-k-preserved : goal.loop-k-preserved
loop-k-preserved g c =
    let k = c.loop-k.k in
    let n = c.args.n in
    let size : n - (k - 1) ≡ suc (n - k) = omega arith in
    let bit : c.from.result ≡ one_if c.is_one.result = c.from.ensures ∙ byte-one_if c.is_one.result in
    let one = one_lt c.is_one.result in
    let small : 2 * c.loop-k.x + c.from.result < 2 ^ (n - k) * 2 = omega arith in
    record {
      small = rw (size, pow-suc 2 (n - k)) small;
      made = λ test h.
          let f = λ (j : ℕ). one_if (test j) in
          let e = bit ∙ ap one_if (h.each (k - 1) c.is_one.result (omega arith) c.is_one.ensures) in
          ap (λ b. 2 * c.loop-k.x + b) e ∙ number_more f k n (omega arith) (omega arith) (c.loop-k.invariant.made test h);
    }

pub returns : goal.returns
returns g c = λ test h. c.loop-k.invariant.made test h ∙ number-all (λ k. one_if (test k)) c.args.n (omega arith)
