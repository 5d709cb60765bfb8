-- Next-mail after pieces: whether a mail paragraph may start there.
use Rattle.std.specs.Prelude.{Bool, true, false, List, [], ◌∷◌}
use Rattle.pieces.specs.Pieces.{Piece, Kind, blank_line, plain_line, paragraph}

-- after a blank line it is true, after a plain line false, and after a paragraph it tells whether that was mail
abbrev pub next_mail_as : Kind → Bool
next_mail_as blank_line = true
next_mail_as (plain_line line) = false
next_mail_as (paragraph p) = p.mail

-- after pieces, from what it was before them
unfoldable pub next_mail_behind : Bool → List Piece → Bool
next_mail_behind before [] = before
next_mail_behind before (q ∷ qs) = next_mail_behind (next_mail_as q.kind) qs
