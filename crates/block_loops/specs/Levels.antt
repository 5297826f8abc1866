-- What the programming's inner calls need of their buffers.
use Rattle.std.specs.Prelude.{ℕ, ◌*◌, ◌/◌, ◌^◌, ◌≤◌, ◌≡◌}
use Rattle.block_sizes.specs.Sizes.{max_size, max_level}

-- a level of N places, with scratch of as many entries and as many marks
pub record LevelBuffers (N scratch marks : ℕ) : Type 0 where
  pub even : 2 * (N / 2) ≡ N
  pub some : 2 ≤ N
  pub small : N ≤ max_size
  pub scratch_size : scratch ≡ N
  pub marks_size : marks ≡ N

-- a block of 2 ^ level places, with scratch of as many entries and as many marks
pub record BlockBuffers (level N scratch marks : ℕ) : Type 0 where
  pub size : N ≡ 2 ^ level
  pub few : level ≤ max_level
  pub scratch_size : scratch ≡ N
  pub marks_size : marks ≡ N
