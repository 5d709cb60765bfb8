-- RULES 4.3: the full White_Space set of Unicode, 25 code points.
use Rattle.std.specs.Prelude.{Bool, ◌&&◌, ◌||◌, ℕ, leb, eqb}

unfoldable pub white_space : ℕ → Bool
white_space c =
    leb 9 c && leb c 13 || eqb c 0x20 || eqb c 0x85 || eqb c 0xA0 || eqb c 0x1680 || leb 0x2000 c && leb c 0x200A || leb 0x2028 c && leb c 0x2029 || eqb c 0x202F || eqb c 0x205F || eqb c 0x3000
