-- How much has been read, as the code keeps it.
use Rattle.fc_load.specs.Loading.{Amount}
use Rattle.fc_load.specs.declared.amount.Read.{Read}

abbrev pub amount_of : Read → Amount
amount_of r = record { bytes = r.bytes; size = r.size }
