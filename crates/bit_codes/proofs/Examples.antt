-- Examples, packed bit by bit with the lowest bit first by a program that knows nothing of these definitions; computed. Assumes nothing.
use mathlib.Core.Path.{◌≡◌, refl}
use mathlib.Core.List.{[], ◌∷◌}
use Rattle.bit_codes.specs.Bits.{number, digits, recoded, packed_bits, unpacked_bits}

pub packs_0 : packed_bits 3 4 (5 ∷ 3 ∷ 6 ∷ 1 ∷ []) ≡ 157 ∷ 3 ∷ []
unfolding number digits recoded
packs_0 = refl

pub unpacks_0 : unpacked_bits 3 4 (157 ∷ 3 ∷ []) ≡ 5 ∷ 3 ∷ 6 ∷ 1 ∷ []
unfolding number digits recoded
unpacks_0 = refl

pub packs_1 : packed_bits 13 8 (8117 ∷ 7364 ∷ 7737 ∷ 6219 ∷ 3439 ∷ 1537 ∷ 7993 ∷ 464 ∷ []) ≡ 181 ∷ 159 ∷ 152 ∷ 231 ∷ 248 ∷ 37 ∷ 252 ∷ 214 ∷ 2 ∷ 76 ∷ 206 ∷ 135 ∷ 14 ∷ []
unfolding number digits recoded
packs_1 = refl

pub unpacks_1 : unpacked_bits 13 8 (181 ∷ 159 ∷ 152 ∷ 231 ∷ 248 ∷ 37 ∷ 252 ∷ 214 ∷ 2 ∷ 76 ∷ 206 ∷ 135 ∷ 14 ∷ []) ≡ 8117 ∷ 7364 ∷ 7737 ∷ 6219 ∷ 3439 ∷ 1537 ∷ 7993 ∷ 464 ∷ []
unfolding number digits recoded
unpacks_1 = refl

pub packs_2 : packed_bits 13 5 (6386 ∷ 7090 ∷ 34 ∷ 7297 ∷ 4363 ∷ []) ≡ 242 ∷ 88 ∷ 118 ∷ 139 ∷ 128 ∷ 64 ∷ 190 ∷ 16 ∷ 1 ∷ []
unfolding number digits recoded
packs_2 = refl

pub unpacks_2 : unpacked_bits 13 5 (242 ∷ 88 ∷ 118 ∷ 139 ∷ 128 ∷ 64 ∷ 190 ∷ 16 ∷ 1 ∷ []) ≡ 6386 ∷ 7090 ∷ 34 ∷ 7297 ∷ 4363 ∷ []
unfolding number digits recoded
unpacks_2 = refl

pub packs_3 : packed_bits 4 7 (7 ∷ 3 ∷ 10 ∷ 0 ∷ 0 ∷ 0 ∷ 0 ∷ []) ≡ 55 ∷ 10 ∷ 0 ∷ 0 ∷ []
unfolding number digits recoded
packs_3 = refl

pub unpacks_3 : unpacked_bits 4 7 (55 ∷ 10 ∷ 0 ∷ 0 ∷ []) ≡ 7 ∷ 3 ∷ 10 ∷ 0 ∷ 0 ∷ 0 ∷ 0 ∷ []
unfolding number digits recoded
unpacks_3 = refl

pub packs_4 : packed_bits 9 11 (390 ∷ 221 ∷ 432 ∷ 29 ∷ 227 ∷ 448 ∷ 507 ∷ 238 ∷ 353 ∷ 236 ∷ 224 ∷ []) ≡ 134 ∷ 187 ∷ 193 ∷ 238 ∷ 48 ∷ 14 ∷ 248 ∷ 126 ∷ 119 ∷ 97 ∷ 217 ∷ 129 ∷ 3 ∷ []
unfolding number digits recoded
packs_4 = refl

pub unpacks_4 : unpacked_bits 9 11 (134 ∷ 187 ∷ 193 ∷ 238 ∷ 48 ∷ 14 ∷ 248 ∷ 126 ∷ 119 ∷ 97 ∷ 217 ∷ 129 ∷ 3 ∷ []) ≡ 390 ∷ 221 ∷ 432 ∷ 29 ∷ 227 ∷ 448 ∷ 507 ∷ 238 ∷ 353 ∷ 236 ∷ 224 ∷ []
unfolding number digits recoded
unpacks_4 = refl
