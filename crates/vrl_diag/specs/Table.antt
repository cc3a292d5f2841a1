-- The rows of the code's own table of codes, as those of `Codes`.
use Rattle.vrl_diag.specs.Codes.{Row}
use Rattle.vrl_diag.specs.declared.titles.Row.{Row as CodeRow}

abbrev pub row_in : CodeRow → Row
row_in r = record { code = r.code; title = r.title.now }
