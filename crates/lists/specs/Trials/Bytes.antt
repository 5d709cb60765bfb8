-- A text of a table as bytes, and two of them compared.
use Rattle.std.specs.Prelude.{Bool, true, false, ◌&&◌, List, [], ◌∷◌, ℕ, eqb}
use Prim.Native.Char.{code as charCode}
use Prim.Native.String.{String, [] as nil, ◌∷◌ as ◌then◌}

abbrev pub bytes : String → List ℕ
bytes nil = []
bytes (c then s) = charCode c ∷ bytes s

abbrev pub same : List ℕ → List ℕ → Bool
same [] [] = true
same [] (y ∷ ys) = false
same (x ∷ xs) [] = false
same (x ∷ xs) (y ∷ ys) = eqb x y && same xs ys
