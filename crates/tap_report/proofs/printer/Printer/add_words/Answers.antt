use Rattle.tap_report.proofs.printer.Printer.add_words.Goals as goal

pub returns-in-NoSuchFlight : goal.returns-in-NoSuchFlight
returns-in-NoSuchFlight g c = rw c.in-NoSuchFlight.is c.add_number_after-in-NoSuchFlight.ensures

pub returns-in-NoSuchByte : goal.returns-in-NoSuchByte
returns-in-NoSuchByte g c = rw c.in-NoSuchByte.is c.add_number_after-in-NoSuchByte.ensures

pub returns-in-NotJoining : goal.returns-in-NotJoining
returns-in-NotJoining g c = rw c.in-NotJoining.is c.add-in-NotJoining.ensures

pub returns-in-NotInPrefix : goal.returns-in-NotInPrefix
returns-in-NotInPrefix g c = rw c.in-NotInPrefix.is c.add-in-NotInPrefix.ensures
