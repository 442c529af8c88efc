use Rattle.afs_command.proofs.statuses.StatusPrint.print.Goals as goal

pub returns-in-Usage : goal.returns-in-Usage
returns-in-Usage g c = rw (c.in-Usage.is) c.print.ensures

pub returns-in-Script : goal.returns-in-Script
returns-in-Script g c = rw (c.in-Script.is, ← c.reason_word.ensures) c.print-in-Script.ensures

pub returns-in-ReadFault : goal.returns-in-ReadFault
returns-in-ReadFault g c = rw (c.in-ReadFault.is) c.print-in-ReadFault.ensures

pub returns-in-BankFault : goal.returns-in-BankFault
returns-in-BankFault g c = rw (c.in-BankFault.is) c.print-in-BankFault.ensures

pub returns-in-Limit : goal.returns-in-Limit
returns-in-Limit g c = rw (c.in-Limit.is) c.print-in-Limit.ensures
