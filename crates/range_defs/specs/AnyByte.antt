-- Whether some byte passes a test.
use Rattle.std.proofs.Common.{◌≡◌, ℕ, Bool, true, false}

-- the answer tells whether some byte passes a test
abbrev pub TellsIfAny : (ℕ → Bool) → Bool → Type 0
TellsIfAny test true = (byte : ℕ) × (test byte ≡ true)
TellsIfAny test false = (byte : ℕ) → test byte ≡ false
