-- What a log tells that only reads, a load tells.
use Rattle.op_log.specs.declared.fault.LogFault.{LogFault}
use Rattle.op_log.specs.declared.fault.LogFault.TheVariants.{Disk, Closed, TooLong, DamagedHeads, DamagedBody}
use Rattle.op_log.specs.declared.fault.LogFault.TheVariants.{Collision, Memory}
use Rattle.op_log.specs.Fault.{IsOfLook}
use Rattle.op_log.specs.Loads.{IsOfLoad}

pub look_is_load : (fault : LogFault) → IsOfLook fault → IsOfLoad fault
look_is_load Disk is = is
look_is_load Closed is = is
look_is_load TooLong is = is
look_is_load (DamagedHeads at) is = is
look_is_load (DamagedBody at) is = is
look_is_load Collision is = absurd is
look_is_load Memory is = is
