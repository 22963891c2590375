-- Each code has its name.
use Rattle.std.proofs.Common.{◌≡◌, Some, None, refl}
use Rattle.std.specs.Prelude.{codes}
use Rattle.ipc_ids.specs.Codes.{eok, enoent, eperm, eexist, einval, elimit, ehangup, eforward, ebusy, enomem}
use Rattle.ipc_ids.specs.Tables.{code_names, name_of}

eok_has_its_name : name_of code_names eok.0 ≡ Some (codes "EOK")
eok_has_its_name = refl

enoent_has_its_name : name_of code_names enoent.0 ≡ Some (codes "ENOENT")
enoent_has_its_name = refl

eperm_has_its_name : name_of code_names eperm.0 ≡ Some (codes "EPERM")
eperm_has_its_name = refl

eexist_has_its_name : name_of code_names eexist.0 ≡ Some (codes "EEXIST")
eexist_has_its_name = refl

einval_has_its_name : name_of code_names einval.0 ≡ Some (codes "EINVAL")
einval_has_its_name = refl

elimit_has_its_name : name_of code_names elimit.0 ≡ Some (codes "ELIMIT")
elimit_has_its_name = refl

ehangup_has_its_name : name_of code_names ehangup.0 ≡ Some (codes "EHANGUP")
ehangup_has_its_name = refl

eforward_has_its_name : name_of code_names eforward.0 ≡ Some (codes "EFORWARD")
eforward_has_its_name = refl

ebusy_has_its_name : name_of code_names ebusy.0 ≡ Some (codes "EBUSY")
ebusy_has_its_name = refl

enomem_has_its_name : name_of code_names enomem.0 ≡ Some (codes "ENOMEM")
enomem_has_its_name = refl

-- a number that is no code of the machine has none
ten_has_no_name : name_of code_names 10 ≡ None
ten_has_no_name = refl
