-- Products that fit 128 bits.
use Rattle.std.specs.Prelude.{ℕ, ◌+◌, ◌*◌, ◌^◌, ◌<◌, ◌≤◌}
use Rattle.std.proofs.Common.{arith}
use Rattle.std.proofs.lemmas.Nat.{mul-le}

pub scaled_bound : (count unit : ℕ) → count < 2 ^ 66 → unit < 2 ^ 32 → count * unit < 2 ^ 98
scaled_bound count unit few small =
    let most = mul-le count unit 73786976294838206463 4294967295 (omega (arith, few)) (omega (arith, small)) in
    omega (arith, most)

pub reach_fits : (block count : ℕ) → block < 2 ^ 32 → count < 2 ^ 32 → block * (12 + count + count * count + count * (count * count)) < 2 ^ 128
reach_fits block count small few =
    let squared = mul-le count count 4294967295 4294967295 (omega (arith, few)) (omega (arith, few)) in
    let cubed = mul-le count (count * count) 4294967295 18446744065119617025 (omega (arith, few)) squared in
    let all : 12 + count + count * count + count * (count * count) ≤ 79228162495817593524129366027 = omega (arith, few, squared, cubed) in
    let most = mul-le block (12 + count + count * count + count * (count * count)) 4294967295 79228162495817593524129366027 (omega (arith, small)) all in
    omega (arith, most)
