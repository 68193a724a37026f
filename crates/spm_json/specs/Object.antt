-- What an object of the code stands for.
use Rattle.serde_json.specs.Data.{Data}
use Rattle.serde_json.specs.View.{view}
use Rattle.spm_json.specs.declared.object.Object.{Object}

abbrev pub data_of : Object → Data
data_of object = view object.value.now
