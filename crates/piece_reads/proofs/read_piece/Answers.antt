use Rattle.std.specs.Prelude.{◌≡◌, ℕ, ◌+◌, ◌≤◌, Option, Some, None, IfSome, List, length, replicate}
use Rattle.std.proofs.Common.{ap, sym, ◌∙◌, subst, arith}
use Rattle.disk_defs.specs.declared.Area.TheVariants.{Image}
use Rattle.bytes_defs.specs.Bytes.{part}
use Rattle.rx_ranges.specs.declared.pieces.PieceKind.{PieceKind}
use Rattle.rx_ranges.specs.declared.pieces.PieceKind.TheVariants.{Disk, Zero}
use Rattle.piece_defs.specs.Places.{bytes_of_kind, IsWithin}
use Rattle.piece_defs.proofs.ByteLaws.{part-hole}
use Rattle.piece_reads.proofs.read_piece.Goals as goal

inside_disk : (size : ℕ) (kind : PieceKind) (at len : ℕ) → kind ≡ Disk → IsWithin size kind at len → at + len ≤ size
inside_disk size kind at len is within = let P : PieceKind → Type 0 = λ k. IsWithin size k at len in subst P is within

pub overflow_add-piece : goal.overflow_add-piece
overflow_add-piece g c = omega (arith, inside_disk _ _ _ _ c.in-Disk.is c.requires.within, g.met.S.Store.sizes_fit c.args.store.now Image, c.requires.inside)

zeros_there : (told : Option (List ℕ)) (kind : PieceKind) (at len skip : ℕ) (buf : List ℕ) → kind ≡ Zero → skip + length buf ≤ len → buf ≡ replicate (length buf) 0
    → IfSome told (λ image. buf ≡ part (bytes_of_kind image kind at len) skip (length buf))
zeros_there None kind at len skip buf is fits zeros = tt
zeros_there (Some image) kind at len skip buf is fits zeros =
    let P : PieceKind → Type 0 = λ k. buf ≡ part (bytes_of_kind image k at len) skip (length buf) in
    subst P (sym is) (zeros ∙ sym (part-hole image at len skip (length buf) fits))

pub returns-in-Zero-clause-bytes : goal.returns-in-Zero-clause-bytes
returns-in-Zero-clause-bytes g c = zeros_there _ _ _ _ _ _ c.in-Zero.is (omega (arith, c.requires.inside, c.fill.ensures.len)) (c.fill.ensures.after (λ y is. is) ∙ ap (λ n. replicate n 0) (sym c.fill.ensures.len))
