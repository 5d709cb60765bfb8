-- RULES 2.1: what every call answers with: a code and N, as one number of 64 bits.
use Rattle.std.specs.Prelude.{ℕ, ◌+◌, ◌*◌, ◌^◌, Result, Ok, Err}

pub record Coded : Type 0 where
  pub code : ℕ
  pub value : ℕ

abbrev pub coded : ℕ → ℕ → Coded
coded code n = record { code = code; value = n }

-- the number that the host gets
unfoldable pub numbered : Coded → ℕ
numbered a = a.code * 2 ^ 32 + a.value

-- the code and N of an answer that is a length or why there is none
abbrev pub result_coded : {E : Type 0} → (E → Coded) → Result ℕ E → Coded
result_coded refused (Ok n) = coded 0 n
result_coded refused (Err e) = refused e
