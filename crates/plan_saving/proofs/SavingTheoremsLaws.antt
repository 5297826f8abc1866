-- What the call says and leaves is the plan's shortest file, where it does not refuse; the rest is said of that file by the laws of a plan's files.
use Prim.Native.Nat.{ℕ, zero, suc, ◌≤◌, ◌<◌}
use native.Mathlib.Decide.{dec_le}
use native.Mathlib.Omega.{arith}
use mathlib.Core.Path.{◌≡◌, refl, sym, ap, ap₂, subst, ◌∙◌}
use mathlib.Core.Bool.{false}
use mathlib.Core.List.{List}
use lib.ListN.{length, take}
use lib.Seq.{take_at, drop_at}
use Rattle.fault.specs.Checks.{and_then, room_fault}
use Rattle.fault.specs.Buffers.{over, filled}
use Rattle.fault.proofs.ChecksLaws.{and_then-zero, fails, room-passes, room-refuses}
use Rattle.plan.specs.declared.record.Plan.{Plan}
use Rattle.plan.specs.Record.{gate_at, gate_wire, Agree}
use Rattle.plan.specs.Faults.{plan_fault, Accepted}
use Rattle.plan.proofs.AgreeLaws.{same-fault}
use Rattle.plan_fields.specs.Parsing.{byte_at}
use Rattle.plan_reading.specs.PlanFile.{plan_read}
use Rattle.plan_files.specs.Encoding.{used, OfBytes, longest_file}
use Rattle.plan_files.specs.TableLines.{gate_offset}
use Rattle.plan_files.proofs.BytesLaws.{encode-bytes}
use Rattle.plan_files.proofs.EncodingLaws.{read-encoded, read-is-encoded, reads-exactly, longest, largest, largest-accepted}
use Rattle.plan_files.proofs.UsedLaws.{used_agrees}
use Rattle.plan_files.proofs.OffsetLaws.{map-byte-stands}
use Rattle.plan_saving.specs.Saving.{saved_outcome, shortest_map, saved_file, save_fault, plan_save, save_result}
use Rattle.plan_saving.specs.SavingTheorems.{read_as, LeftOut, saved_length, written, SavedRight, SavedRightTheorem, SaveRefusedTheorem, NeededLengthTheorem, LongestSaved, SavedAgainTheorem}
use Rattle.plan_saving.proofs.ShortestLaws.{left_out, shortest-choice, file-shortest, same-file, largest-saved}

-- the number that saving says is that of its checks
checks_number : (n long : ℕ) → (saved_outcome n long).number ≡ n
checks_number zero long = refl
checks_number (suc n) long = refl

-- a refusal has length 0 and leaves the buffer
refused-length : (n long : ℕ) → (n ≡ 0 → ⊥) → (saved_outcome n long).file_length ≡ 0
refused-length zero long h = absurd (h refl)
refused-length (suc n) long h = refl

refused-same : (n : ℕ) (new old : List ℕ) → (n ≡ 0 → ⊥) → filled n new old ≡ old
refused-same zero new old h = absurd (h refl)
refused-same (suc n) new old h = refl

-- the checks of an accepted plan are the room's
enough-room : (p : Plan) (n : ℕ) → Accepted p → length (saved_file p) ≤ n → save_fault p n ≡ 0
enough-room p n ok h = (and_then-zero (plan_fault p) (room_fault (length (saved_file p)) n)).1 (ok, sym (room-passes refl h))

less-room : (p : Plan) (n : ℕ) → Accepted p → n < length (saved_file p) → save_fault p n ≡ 11
less-room p n ok h = ap (λ a. and_then a (room_fault (length (saved_file p)) n)) ok ∙ sym (room-refuses refl h)

-- a byte list that is read as the plan is one of its files, so it is no shorter
read_longer : (p : Plan) → Accepted p → (s : List ℕ) → OfBytes s → plan_read s ≡ read_as p → length (saved_file p) ≤ length s
read_longer p ok s small e =
    let x = (reads-exactly s (used p) small).0 e in
    omega (arith, ap length (same-file (used p) p (used_agrees p ok)), file-shortest x.maps (used p) x.choice, ap length x.file)

-- where the call does not refuse: what it says and leaves, and what follows for the file
module _ (p : Plan) (buffer : List ℕ) (none : save_fault p (length buffer) ≡ 0) where
  length_said : saved_length p buffer ≡ length (saved_file p)
  unfolding plan_save
  length_said = ap (λ n. (saved_outcome n (length (saved_file p))).file_length) none

  left : save_result p buffer ≡ over (saved_file p) buffer
  left = ap (λ n. filled n (saved_file p) buffer) none

  file-left : written p buffer ≡ saved_file p
  file-left = ap₂ take length_said left ∙ take_at (saved_file p) _ (length (saved_file p)) refl

  saved : SavedRight p buffer
  saved =
      let ok = ((and_then-zero (plan_fault p) _).0 none).0 in
      let maps = shortest_map p in
      let choice = shortest-choice p in
      record {
        accepted = ok;
        long = ap length file-left ∙ sym length_said;
        bytes = subst OfBytes (sym file-left) (encode-bytes maps p ok choice);
        past = rw (length_said, left) (drop_at (saved_file p) _ (length (saved_file p)) refl);
        read = ap plan_read file-left ∙ read-encoded maps p ok choice;
        fields = λ i l.
            subst (λ s. LeftOut (gate_wire p.inputs i) (byte_at s (gate_offset false s i)) (gate_at p i)) (sym file-left)
            (subst (λ m. LeftOut (gate_wire p.inputs i) m (gate_at p i)) (sym (map-byte-stands maps p ok choice i l))
            (left_out (gate_wire p.inputs i) (gate_at p i)));
        shortest = λ s small e. omega (arith, length_said, read_longer p ok s small e);
        most = omega (arith, length_said, longest maps p ok);
      }

pub saved-right : SavedRightTheorem
unfolding plan_save
saved-right p buffer e = saved p buffer (sym (checks_number (save_fault p (length buffer)) (length (saved_file p))) ∙ e)

pub save_refused : SaveRefusedTheorem
unfolding plan_save
save_refused p buffer refused =
    let n = length buffer in
    let long = length (saved_file p) in
    let number = checks_number (save_fault p n) long in
    let fails-so : save_fault p n ≡ 0 → ⊥ = λ e. refused (number ∙ e) in
    record {
      fault = λ faulty. number ∙ fails (plan_fault p) (room_fault long n) (positive (plan_fault p) faulty);
      short = λ ok. number ∙ less-room p n ok (below long n (λ room. fails-so (enough-room p n ok room)));
      none = refused-length (save_fault p n) long fails-so;
      same = refused-same (save_fault p n) (saved_file p) buffer fails-so;
    }
  where
    positive : (m : ℕ) → (m ≡ 0 → ⊥) → 1 ≤ m
    positive zero h = absurd (h refl)
    positive (suc m) h = omega arith

    below : (a b : ℕ) → (a ≤ b → ⊥) → b < a
    below a b h = elim (dec_le a b) [ yes l ↦ absurd (h l) | no d ↦ omega arith ]

pub needed-length : NeededLengthTheorem
unfolding plan_save
needed-length p ok = record {
  needed = length (saved_file p);
  most = longest (shortest_map p) p ok;
  enough = λ n h. rw (enough-room p n ok h);
  less = λ n h. rw (less-room p n ok h);
}

-- the largest plan
pub longest-saved : LongestSaved
unfolding plan_save
longest-saved = record {
  plan = largest;
  saved =
      rw (enough-room largest longest_file largest-accepted (omega (arith, largest-saved)))
      (ap (λ n. record { number = 0; file_length = n }) largest-saved);
}

pub saved-again : SavedAgainTheorem
unfolding plan_save
saved-again s small read n room =
    let x = read-is-encoded s small read in
    let q = (plan_read s).plan in
    let shorter : length (saved_file q) ≤ length s = omega (arith, file-shortest x.maps q x.choice, ap length x.file) in
    rw (enough-room q n x.accepted (omega arith)) (refl, shorter)

-- unused places never matter
pub same_saving : (p q : Plan) → Agree p q → (buffer : List ℕ)
    → (plan_save p (length buffer) ≡ plan_save q (length buffer)) × (save_result p buffer ≡ save_result q buffer)
unfolding plan_save
same_saving p q same buffer = rw (same-fault p q same, same-file p q same) (refl, refl)
