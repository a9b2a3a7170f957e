-- A code word that was found, by its row. A working form.
use Rattle.h264_base.specs.Table.{Row}
use Rattle.h264_tables.specs.declared.front.Entry.{Entry}

abbrev pub entry_of : Row → Entry
entry_of r = record { length = r.length; value = r.value }
