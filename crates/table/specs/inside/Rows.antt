-- What the slots and the rows of the code are in 01's table.
use Rattle.std.specs.Prelude.{Bool, true, false}
use Rattle.rules.specs.Table.{Row, row, Class, arithmetic, boolean, statement, no_class, Slot, unused, any, var, child}
use Rattle.table.specs.declared.rows.Slot.{Slot as CodeSlot}
use Rattle.table.specs.declared.rows.Slot.TheVariants.{Arithmetic, Boolean, Statement, Unused, Any, Variable}
use Rattle.table.specs.declared.rows.Row.{Row as CodeRow}

abbrev pub slot_in : CodeSlot → Slot
slot_in Arithmetic = child arithmetic
slot_in Boolean = child boolean
slot_in Statement = child statement
slot_in Unused = unused
slot_in Any = any
slot_in Variable = var

abbrev pub is_child : CodeSlot → Bool
is_child Arithmetic = true
is_child Boolean = true
is_child Statement = true
is_child Unused = false
is_child Any = false
is_child Variable = false

-- the class of a node with this slot of its own
abbrev pub class_in : CodeSlot → Class
class_in Arithmetic = arithmetic
class_in Boolean = boolean
class_in Statement = statement
class_in Unused = no_class
class_in Any = no_class
class_in Variable = no_class

abbrev pub row_in : CodeRow → Row
row_in r = row (class_in r.0) (slot_in r.1) (slot_in r.2) (slot_in r.3)
