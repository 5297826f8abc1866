-- Two lists of h entries, one behind the other, filled store by store.
use mathlib.Core.Path.{◌≡◌, sym, ap, ◌∙◌}
use mathlib.Core.List.{List, ◌++◌}
use Prim.Native.Nat.{ℕ, ◌+◌, ◌-◌, ◌*◌, ◌≤◌, ◌<◌}
use native.Mathlib.Decide.{ℕ_discrete, dec_lt}
use native.Mathlib.Omega.{arith}
use lib.ListN.{length, get_or, set, length-set, length-append, get_or-append}
use lib.Seq.{ext_get_or, get_or-set_same, get_or-set_other, get_or-append-add}
use Rattle.lists.specs.Lists.{list_of}
use Rattle.lists.proofs.ListsLaws.{length-list_of, get_or-list_of}

-- the first i entries of the one and the first j of the other are stored
pub record Filled (h : ℕ) (f g : ℕ → ℕ) (w : List ℕ) (i j : ℕ) : Type 0 where
  pub size : length w ≡ 2 * h
  pub upper : (x : ℕ) → x < i → get_or w x 0 ≡ f x
  pub lower : (x : ℕ) → x < j → get_or w (h + x) 0 ≡ g x

module _ {h : ℕ} {f g : ℕ → ℕ} {w : List ℕ} {i j : ℕ} (W : Filled h f g w i j) where
  pub upper-more : {v : ℕ} → i < h → v ≡ f i → Filled h f g (set w i v) (i + 1) j
  upper-more {v} l e =
      record {
        size = length-set w i v ∙ W.size;
        upper = λ x d. go x d (ℕ_discrete x i);
        lower = λ x d. get_or-set_other w i (h + x) v 0 (λ c. absurd (omega arith)) ∙ W.lower x d;
      }
    where
      go : (x : ℕ) → x < i + 1 → Dec (x ≡ i) → get_or (set w i v) x 0 ≡ f x
      go x d (yes c) = rw c (get_or-set_same w i v 0 (omega (arith, W.size)) ∙ e)
      go x d (no n) = get_or-set_other w i x v 0 n ∙ W.upper x (omega arith)

  pub lower-more : {v : ℕ} → i ≤ h → j < h → v ≡ g j → Filled h f g (set w (h + j) v) i (j + 1)
  lower-more {v} b l e =
      record {
        size = length-set w (h + j) v ∙ W.size;
        upper = λ x d. get_or-set_other w (h + j) x v 0 (λ c. absurd (omega arith)) ∙ W.upper x d;
        lower = λ x d. go x d (ℕ_discrete x j);
      }
    where
      go : (x : ℕ) → x < j + 1 → Dec (x ≡ j) → get_or (set w (h + j) v) (h + x) 0 ≡ g x
      go x d (yes c) = rw c (get_or-set_same w (h + j) v 0 (omega (arith, W.size)) ∙ e)
      go x d (no n) = get_or-set_other w (h + j) (h + x) v 0 (λ c. n (omega arith)) ∙ W.lower x (omega arith)

  pub filled-all : h ≤ i → h ≤ j → w ≡ list_of h f ++ list_of h g
  filled-all bi bj =
      ext_get_or 0 w (list_of h f ++ list_of h g) (W.size ∙ sym both) (λ x d. go x (rw W.size at d) (dec_lt x h))
    where
      lf : length (list_of h f) ≡ h
      lf = length-list_of h f

      both : length (list_of h f ++ list_of h g) ≡ 2 * h
      both = length-append (list_of h f) (list_of h g) ∙ omega (arith, lf, length-list_of h g)

      go : (x : ℕ) → x < 2 * h → Dec (x < h) → get_or w x 0 ≡ get_or (list_of h f ++ list_of h g) x 0
      go x d (yes l) =
          W.upper x (omega arith)
          ∙ sym (get_or-append (list_of h f) (list_of h g) 0 x (rw lf l) ∙ get_or-list_of h f x 0 l)
      go x d (no n) =
          let k : h + (x - h) ≡ x = omega arith in
          let k' : length (list_of h f) + (x - h) ≡ x = omega (arith, lf) in
          ap (λ y. get_or w y 0) (sym k) ∙ W.lower (x - h) (omega arith)
          ∙ sym (ap (λ y. get_or (list_of h f ++ list_of h g) y 0) (sym k') ∙ get_or-append-add (list_of h f) (list_of h g) (x - h) 0
          ∙ get_or-list_of h g (x - h) 0 (omega arith))
