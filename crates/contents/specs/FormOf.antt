-- The form that a function is given.
use Rattle.contents.specs.ImageForm.{Form}
use Rattle.contents.specs.declared.form.Form as code

abbrev pub form_of : code.Form → Form
form_of given = record {
  edition = given.edition;
  entries = given.entries;
  id_size = given.id_size;
  field_size = given.field_size;
}
