-- Texts that are compared four bytes at a time.
use Rattle.std.proofs.Common.{◌≡◌, ℕ, ◌+◌, ◌≤◌, List, length, get_or, take, subst, arith}
use Rattle.std.proofs.lemmas.List.{take_more_same}

-- four bytes more
pub four_more : (xs ys : List ℕ) (at : ℕ) → at + 4 ≤ length xs → at + 4 ≤ length ys
    → get_or xs at 0 ≡ get_or ys at 0 → get_or xs (at + 1) 0 ≡ get_or ys (at + 1) 0 → get_or xs (at + 2) 0 ≡ get_or ys (at + 2) 0 → get_or xs (at + 3) 0 ≡ get_or ys (at + 3) 0
    → take at xs ≡ take at ys → take (at + 4) xs ≡ take (at + 4) ys
four_more xs ys at lx ly e0 e1 e2 e3 h =
    let h1 = take_more_same xs ys at 0 (omega (arith, lx)) (omega (arith, ly)) h e0 in
    let h2 : take (at + 2) xs ≡ take (at + 2) ys = subst (λ n. take n xs ≡ take n ys) (omega arith) (take_more_same xs ys (at + 1) 0 (omega (arith, lx)) (omega (arith, ly)) h1 e1) in
    let h3 : take (at + 3) xs ≡ take (at + 3) ys = subst (λ n. take n xs ≡ take n ys) (omega arith) (take_more_same xs ys (at + 2) 0 (omega (arith, lx)) (omega (arith, ly)) h2 e2) in
    subst (λ n. take n xs ≡ take n ys) (omega arith) (take_more_same xs ys (at + 3) 0 (omega (arith, lx)) (omega (arith, ly)) h3 e3)
