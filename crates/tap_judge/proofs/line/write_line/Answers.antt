use Rattle.tap_judge.proofs.line.write_line.Goals as goal

pub returns-in-Unlawful : goal.returns-in-Unlawful
returns-in-Unlawful g c = rw c.in-Unlawful.is c.write_number-in-Unlawful.ensures

pub returns-in-NotLog : goal.returns-in-NotLog
returns-in-NotLog g c = rw c.in-NotLog.is c.write_number-in-NotLog.ensures

pub returns-in-TooLong : goal.returns-in-TooLong
returns-in-TooLong g c = rw c.in-TooLong.is c.write_text.ensures

pub returns-in-Usage : goal.returns-in-Usage
returns-in-Usage g c = rw c.in-Usage.is c.write_text-in-Usage.ensures

pub returns-in-ReadFault : goal.returns-in-ReadFault
returns-in-ReadFault g c = rw c.in-ReadFault.is c.write_text-in-ReadFault.ensures

pub returns-in-NoMemory : goal.returns-in-NoMemory
returns-in-NoMemory g c = rw c.in-NoMemory.is c.write_text-in-NoMemory.ensures
