-- A meter of the code as a meter of the law book: the same three numbers.
use Rattle.rules.specs.Table.{Meter as LawMeter}
use Rattle.meter.specs.declared.Meter.{Meter}

abbrev pub meter_view : Meter → LawMeter
meter_view m = record { fuel = m.fuel; serials = m.serials; share = m.share }

-- what stands past the end of an array of meters
abbrev pub no_meter : Meter
no_meter = record { fuel = 0; serials = 0; share = 0 }
