pub mod SchemaLaws
