-- A record that holds no line.
use Rattle.index.specs.declared.Record.{Record}

abbrev pub no_record : Record
no_record = record { place = 0; length = 0; first = 0; count = 0 }
