-- What is told where an older file is renewed.
use Rattle.head_log.specs.declared.fault.HeadFault.{HeadFault}
use Rattle.head_log.specs.declared.fault.HeadFault.TheVariants.{Disk, Closed, TooLong, Damaged, Memory}

-- of the file that is made: that it is not as it was written is a failure of its disk
abbrev pub fault_of_new : HeadFault → HeadFault
fault_of_new Disk = Disk
fault_of_new Closed = Closed
fault_of_new TooLong = TooLong
fault_of_new (Damaged at) = Disk
fault_of_new Memory = Memory
