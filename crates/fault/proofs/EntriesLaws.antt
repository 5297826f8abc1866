-- A check of each entry of a list in its turn, all with one word: it fails exactly if some entry fails its test.
use mathlib.Core.Path.{◌≡◌, refl, ap, ◌∙◌}
use mathlib.Core.Bool.{Bool, true, false, ◌&&◌}
use mathlib.Core.List.{List}
use Prim.Native.Nat.{ℕ, zero, suc, ◌≤◌}
use native.Mathlib.Omega.{arith}
use native.Mathlib.Numerals.{add-one}
use lib.ListN.{length, get_or, take}
use lib.Seq.{take-length}
use Rattle.std.specs.List.{list_all}
use Rattle.std.proofs.lemmas.List.Folds.{list_all_more}
use Rattle.fault.specs.declared.Fault.{Fault}
use Rattle.fault.specs.Checks.{unless, and_then, first_of}
use Rattle.fault.proofs.ChecksLaws.{fails, number-positive}

module _ (test : ℕ → Bool) (f : Fault) (list : List ℕ) where
  both : (a b : Bool) → and_then (unless a f) (unless b f) ≡ unless (a && b) f
  both true b = refl
  both false b = fails _ _ (number-positive f)

  first_entries : (k : ℕ) → k ≤ length list → first_of (λ i. unless (test (get_or list i 0)) f) k ≡ unless (list_all test (take k list)) f
  unfolding first_of
  first_entries zero h = refl
  first_entries (suc k) h =
      let e : list_all test (take (suc k) list) ≡ (list_all test (take k list) && test (get_or list k 0)) = rw (add-one k) at (list_all_more test list k 0 (omega arith)) in
      rw (first_entries k (omega arith), e) (both (list_all test (take k list)) (test (get_or list k 0)))

  pub each-entry : first_of (λ i. unless (test (get_or list i 0)) f) (length list) ≡ unless (list_all test list) f
  each-entry = first_entries (length list) (omega arith) ∙ ap (λ l. unless (list_all test l) f) (take-length list)
